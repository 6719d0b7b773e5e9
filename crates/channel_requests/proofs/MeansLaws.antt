-- What labels of a store mean, in each reading that agrees with it.
use Rattle.std.proofs.Common.{◌≡◌, ℕ, Bool, Result, Ok, Err, IfOk, ap₂, sym, refl, ◌∙◌}
use Rattle.origin_labels.specs.Label.{Label, union, within}
use Rattle.origin_labels.specs.Stores.{IsKept}
use Rattle.js_values.proofs.ReadingLaws.{IsReading-earlier}
use Rattle.channel_requests.specs.Answers.{Means, Asks}

module _ {S T : Type 0} (made : S → T → Type 0) (meaning : S → T → Label) where
  -- a label means itself
  pub means_itself : (store : S) (label : T) → made store label → Means made meaning store label (λ reading. reading label)
  means_itself store label m = record { belongs = m; is = λ reading read. refl }

  -- a label means what it means in the store
  pub means_this : (store : S) (label : T) (this : Label) → made store label → meaning store label ≡ this → Means made meaning store label (λ reading. this)
  means_this store label this m is = record { belongs = m; is = λ reading read. read.agrees label m ∙ is }

  -- the same, where there is memory
  pub means_made : {E : Type 0} (store : S) (r : Result T E) (that this : Label) → IfOk r (made store) → IfOk r (λ label. meaning store label ≡ that) → that ≡ this → IfOk r (λ label. Means made meaning store label (λ reading. this))
  means_made store (Ok label) that this m is same = means_this store label this m (is ∙ same)
  means_made store (Err e) that this m is same = tt

  -- it means whatever is equal to that
  pub means_as : (store : S) (label : T) (before after : (T → Label) → Label) → Means made meaning store label before → ((reading : T → Label) → before reading ≡ after reading) → Means made meaning store label after
  means_as store label before after means same = record { belongs = means.belongs; is = λ reading read. means.is reading read ∙ same reading }

  module _ (room : S → ℕ) (firm : S → Bool) (old new : S) (kept : IsKept made meaning room firm old new) where
    -- a later store keeps it
    pub means_later : (label : T) (this : (T → Label) → Label) → Means made meaning old label this → Means made meaning new label this
    means_later label this means = record {
      belongs = (kept.labels label means.belongs).0;
      is = λ reading read. means.is reading (IsReading-earlier made meaning room firm old new reading kept read);
    }

    -- the union of two labels
    pub means_joined : (a b label : T) (first second : (T → Label) → Label) → Means made meaning old a first → Means made meaning old b second → made new label → meaning new label ≡ union (meaning old a) (meaning old b) → Means made meaning new label (λ reading. union (first reading) (second reading))
    means_joined a b label first second p q m is = record {
      belongs = m;
      is = λ reading read.
          let earlier = IsReading-earlier made meaning room firm old new reading kept read in
          read.agrees label m ∙ is ∙ ap₂ union (sym (earlier.agrees a p.belongs) ∙ p.is reading earlier) (sym (earlier.agrees b q.belongs) ∙ q.is reading earlier);
    }

    -- the same, where there is memory
    pub means_join : {E : Type 0} (r : Result T E) (a b : T) (first second : (T → Label) → Label) → Means made meaning old a first → Means made meaning old b second → IfOk r (made new) → IfOk r (λ label. meaning new label ≡ union (meaning old a) (meaning old b)) → IfOk r (λ label. Means made meaning new label (λ reading. union (first reading) (second reading)))
    means_join (Ok label) a b first second p q m is = means_joined a b label first second p q m is
    means_join (Err e) a b first second p q m is = tt

  -- what a rule that was asked is told
  pub asks_from : (store : S) (needed had : (T → Label) → Label) (answer : Bool) (need have : T) → Means made meaning store need needed → Means made meaning store have had → within (meaning store need) (meaning store have) ≡ answer → Asks made meaning store needed had answer need have
  asks_from store needed had answer need have p q e = record {
    needs = p;
    has = q;
    included = λ reading read.
        ap₂ within (sym (p.is reading read) ∙ read.agrees need p.belongs) (sym (q.is reading read) ∙ read.agrees have q.belongs) ∙ e;
  }
