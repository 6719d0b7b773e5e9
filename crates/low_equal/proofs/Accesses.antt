-- What reads and puts come to is entered, and objects are converted: where the cause can't be seen, and in two runs.
use Rattle.std.proofs.Common.{◌≡◌, ℕ, Result, Ok, Err, List, [], ◌∷◌, Bool, true, false, ⊎_elim, refl, sym, ap, ap₂, subst, true≢false}
use Rattle.origin_labels.specs.Label.{Label, union}
use Rattle.flow_policy.specs.Policies.{Tables}
use Rattle.flow_frames.specs.declared.kind.Kind.TheVariants as kind
use Rattle.native_protocol.specs.declared.hint.Hint.{Hint}
use Rattle.native_protocol.specs.declared.hint.Hint.TheVariants as hint
use Rattle.native_protocol.specs.declared.request.ErrorKind.TheVariants as kinds
use Rattle.js_number.specs.declared.num.Num.{Num as Number}
use Rattle.js_number.specs.declared.int.LeftNumbers.{LeftNumbers}
use Rattle.js_values.specs.declared.value.Value.{Value}
use Rattle.js_values.specs.declared.value.Value.TheVariants as value
use Rattle.js_ast.specs.Functions.{FunctionCode}
use Rattle.es_meaning.specs.Outcomes.{ret, ◌>>=◌}
use Rattle.es_meaning.specs.Operators.{is_object}
use Rattle.es_meaning.specs.Plain.{number_in, is_count, count_of}
use Rattle.es_meaning.specs.Requested.{no_marks}
use Rattle.es_meaning.proofs.Link.{nils, conses}
use Rattle.flow_meaning.specs.Scopes.{Val, L, settled_value}
use Rattle.flow_meaning.specs.Tracked.{throw_error, Enters, Access, has_value, has_getter, Putting, is_put, has_setter, entered_access, entered_putting, convert, converted_by, converted_for_length, Defining, is_defined, has_length_given, has_length, set_length, numbered_by, numbered, given_count, with_count, entered_defining}
use Rattle.low_equal.specs.Observed.{Sees, Hides}
use Rattle.low_equal.specs.LowEqual.{Pairing, Extends, Alike, seen, hidden, SameValue, primitives, objects, Agree}
use Rattle.low_equal.specs.Runs.{Confined, Lockstep}
use Rattle.low_equal.specs.Laws.{Nothing}
use Rattle.low_equal.proofs.Agreement.{extends_trans, alike_map, alike_join, agree_more}
use Rattle.low_equal.proofs.Steps.{conf_ret, conf_ends, conf_bind, conf_scope, lock_ret, lock_bind, lock_scope, ends_first, ends_second}
use Rattle.low_equal.proofs.Mute.{Mum, HiddenVal, mum_ret, mum_ends, mum_more, mum_bind, mum_throw, mum_settled, Never, stops_first, stops_second, lock_mum, lock_hidden}
use Rattle.low_equal.proofs.Lines.{front_refl}
use Rattle.low_equal.proofs.ObjectActs.{object_same}
use Rattle.low_equal.proofs.References.{seen_other, AccessesAgree, both_values, both_getters, hidden_accesses, access_label}
use Rattle.low_equal.proofs.Labels.{not_both, hides_first, hides_second, hidden_part}
use Rattle.low_equal.proofs.Acts.{conf_throw, thrown_both}
use Rattle.low_equal.proofs.Defines.{HiddenDefining, DefiningsAgree, both_defined, both_give_lengths, hidden_definings}
use Rattle.low_equal.proofs.Lengths.{conf_set_length, mum_set_length, set_length_after}
use Rattle.low_equal.proofs.Puts.{PuttingsAgree, both_put, both_setters, both_lengths, hidden_puttings, SetterHidden}
use Rattle.low_equal.proofs.Calls.{EntersConfined, EntersInStep, conf_call_value, mum_call_value}
use Rattle.low_equal.proofs.CallsAgree.{lock_settled, lock_call_value}

module _ (observer : Label) (tables : Tables) (functions : List FunctionCode) where
  abbrev Hid : Val → Type 0
  Hid v = HiddenVal observer tables v

  -- what gives nothing
  abbrev Any : Unit {0} → Type 0
  Any u = Unit {0}

  -- what gives anything
  abbrev Free : {X : Type 0} → X → Type 0
  Free a = Unit {0}

  -- ---- one run

  -- what follows each conversion of a value for a `length`, and each number
  abbrev last_one : Label → (ℕ → Label → L Val) → Val → Number → Val → Number → L Val
  last_one label next first m second n = given_count (is_count m n) (count_of m) (union first.label second.label) label next

  abbrev second_one : Label → (ℕ → Label → L Val) → Val → Number → Val → L Val
  second_one label next first m second = numbered second >>= last_one label next first m second

  abbrev then_one : Enters → Label → Val → (ℕ → Label → L Val) → Val → Number → L Val
  then_one E label v next first m = converted_for_length E label v >>= second_one label next first m

  abbrev first_one : Enters → Label → Val → (ℕ → Label → L Val) → Val → L Val
  first_one E label v next first = numbered first >>= then_one E label v next first

  -- the number of a value
  conf_numbered_by : (n : Result Number LeftNumbers) → Confined observer tables (numbered_by n)
  unfolding numbered_by
  conf_numbered_by (Ok n) = conf_ret observer tables n
  conf_numbered_by (Err e) = conf_ends observer tables _

  pub conf_numbered : (v : Val) → Confined observer tables (numbered v)
  unfolding numbered
  conf_numbered v = conf_numbered_by (number_in v.value)

  mum_numbered_by : (n : Result Number LeftNumbers) → Mum observer tables Free (numbered_by n)
  unfolding numbered_by
  mum_numbered_by (Ok n) = mum_ret observer tables Free tt
  mum_numbered_by (Err e) = mum_ends observer tables Free _

  mum_numbered : (v : Val) → Mum observer tables Free (numbered v)
  unfolding numbered
  mum_numbered v = mum_numbered_by (number_in v.value)

  module _ {E : Enters} (c : EntersConfined observer tables E) where
    pub conf_access : (a : Access) → Confined observer tables (entered_access functions E a)
    unfolding entered_access
    conf_access (has_value v) = conf_ret observer tables v
    conf_access (has_getter label f this) = conf_call_value observer tables functions c label (value.Object f) this []

    pub mum_access : (a : Access) → Hides observer (access_label a) → Mum observer tables Hid (entered_access functions E a)
    unfolding entered_access
    mum_access (has_value v) h = mum_ret observer tables Hid h
    mum_access (has_getter label f this) h = mum_call_value observer tables functions c label (value.Object f) this [] h

    -- an object is converted, or another value is given as it is
    pub conf_converted : (b : Bool) (h : Hint) (label : Label) (v given : Val) → Confined observer tables (converted_by b E h label v given)
    unfolding converted_by convert
    conf_converted true h label v given = conf_bind observer tables (λ x. ret (settled_value x)) (conf_scope observer tables kind.Native label (λ d. c.conversion h v)) (λ x. conf_ret observer tables (settled_value x))
    conf_converted false h label v given = conf_ret observer tables given

    mum_converted : (b : Bool) (h : Hint) (label : Label) (v given : Val) → Hides observer label → Hides observer given.label → Mum observer tables Hid (converted_by b E h label v given)
    unfolding converted_by convert
    mum_converted true h label v given z k = mum_settled observer tables kind.Native label z (λ d. c.conversion h v)
    mum_converted false h label v given z k = mum_ret observer tables Hid k

    -- a value for a `length`, converted twice
    conf_for_length : (label : Label) (v : Val) → Confined observer tables (converted_for_length E label v)
    unfolding converted_for_length
    conf_for_length label v = conf_converted (is_object v.value) hint.Number (union label v.label) v v

    mum_for_length : (label : Label) (v : Val) → Hides observer label → Mum observer tables Free (converted_for_length E label v)
    unfolding converted_for_length converted_by convert
    mum_for_length label v h = by_case (is_object v.value)
      where
        by_case : (b : Bool) → Mum observer tables Free (converted_by b E hint.Number (union label v.label) v v)
        by_case true = mum_more observer tables Hid Free (λ x p. tt) (mum_settled observer tables kind.Native (union label v.label) (hides_first observer label v.label h) (λ d. c.conversion hint.Number v))
        by_case false = mum_ret observer tables Free tt

    conf_given : (b : Bool) (n : ℕ) (given label : Label) (next : ℕ → Label → L Val) → ((n : ℕ) (l : Label) → Confined observer tables (next n l)) → Confined observer tables (given_count b n given label next)
    unfolding given_count
    conf_given true n given label next k = k n given
    conf_given false n given label next k = conf_throw observer tables {X = Val} kinds.RangeError (union label given)

    mum_given : (b : Bool) (n : ℕ) (given label : Label) (next : ℕ → Label → L Val) → Hides observer label → ((n : ℕ) (l : Label) → Mum observer tables Hid (next n l)) → Mum observer tables Hid (given_count b n given label next)
    unfolding given_count
    mum_given true n given label next h k = k n given
    mum_given false n given label next h k = mum_throw observer tables Hid kinds.RangeError (union label given) (hides_first observer label given h)

    conf_last : (label : Label) (next : ℕ → Label → L Val) → ((n : ℕ) (l : Label) → Confined observer tables (next n l)) → (first : Val) (m : Number) (second : Val) (n : Number) → Confined observer tables (last_one label next first m second n)
    conf_last label next k first m second n = conf_given (is_count m n) (count_of m) (union first.label second.label) label next k

    conf_second : (label : Label) (next : ℕ → Label → L Val) → ((n : ℕ) (l : Label) → Confined observer tables (next n l)) → (first : Val) (m : Number) (second : Val) → Confined observer tables (second_one label next first m second)
    conf_second label next k first m second = conf_bind observer tables (last_one label next first m second) (conf_numbered second) (λ n. conf_last label next k first m second n)

    conf_then : (label : Label) (v : Val) (next : ℕ → Label → L Val) → ((n : ℕ) (l : Label) → Confined observer tables (next n l)) → (first : Val) (m : Number) → Confined observer tables (then_one E label v next first m)
    conf_then label v next k first m = conf_bind observer tables (second_one label next first m) (conf_for_length label v) (λ second. conf_second label next k first m second)

    conf_first : (label : Label) (v : Val) (next : ℕ → Label → L Val) → ((n : ℕ) (l : Label) → Confined observer tables (next n l)) → (first : Val) → Confined observer tables (first_one E label v next first)
    conf_first label v next k first = conf_bind observer tables (then_one E label v next first) (conf_numbered first) (λ m. conf_then label v next k first m)

    pub conf_count : (label : Label) (v : Val) (next : ℕ → Label → L Val) → ((n : ℕ) (l : Label) → Confined observer tables (next n l)) → Confined observer tables (with_count E label v next)
    unfolding with_count
    conf_count label v next k = conf_bind observer tables (first_one E label v next) (conf_for_length label v) (λ first. conf_first label v next k first)

    mum_count : (label : Label) (v : Val) (next : ℕ → Label → L Val) → Hides observer label → ((n : ℕ) (l : Label) → Mum observer tables Hid (next n l)) → Mum observer tables Hid (with_count E label v next)
    unfolding with_count
    mum_count label v next h k =
        mum_bind observer tables Free Hid (first_one E label v next) (mum_for_length label v h) (λ first x. mum_bind observer tables Free Hid (then_one E label v next first) (mum_numbered first)
        (λ m y. mum_bind observer tables Free Hid (second_one label next first m) (mum_for_length label v h) (λ second z. mum_bind observer tables Free Hid (last_one label next first m second) (mum_numbered second)
        (λ n u. mum_given (is_count m n) (count_of m) (union first.label second.label) label next h k))))

    -- what a definition comes to
    pub conf_defining : (v : Val) (d : Defining) → Confined observer tables (entered_defining E v d)
    unfolding entered_defining
    conf_defining v (is_defined label) = conf_ret observer tables _
    conf_defining v (has_length_given label o marks) = conf_count label v (set_length true label o marks) (λ n l. conf_set_length observer tables true label o marks n l)

    mum_defining : (v : Val) (d : Defining) → HiddenDefining observer d → Mum observer tables Hid (entered_defining E v d)
    unfolding entered_defining
    mum_defining v (is_defined label) h = mum_ret observer tables Hid h
    mum_defining v (has_length_given label o marks) h = mum_count label v (set_length true label o marks) h (λ n l. mum_set_length observer tables true label o marks n l h)

    pub conf_putting : (v : Val) (p : Putting) → Confined observer tables (entered_putting functions E v p)
    unfolding entered_putting
    conf_putting v is_put = conf_ret observer tables tt
    conf_putting v (has_setter label f this) = conf_bind observer tables (λ u. ret tt) (conf_call_value observer tables functions c label (value.Object f) this (v ∷ [])) (λ u. conf_ret observer tables tt)
    conf_putting v (has_length label o) = conf_bind observer tables (λ u. ret tt) (conf_count label v (set_length false label o no_marks) (λ n l. conf_set_length observer tables false label o no_marks n l)) (λ u. conf_ret observer tables tt)

    mum_putting : (v : Val) (p : Putting) → SetterHidden observer p → Mum observer tables Any (entered_putting functions E v p)
    unfolding entered_putting
    mum_putting v is_put h = mum_ret observer tables Any tt
    mum_putting v (has_setter label f this) h = mum_bind observer tables Hid Any (λ u. ret tt) (mum_call_value observer tables functions c label (value.Object f) this (v ∷ []) h) (λ u p. mum_ret observer tables Any tt)
    mum_putting v (has_length label o) h = mum_bind observer tables Hid Any (λ u. ret tt) (mum_count label v (set_length false label o no_marks) h (λ n l. mum_set_length observer tables false label o no_marks n l h)) (λ u p. mum_ret observer tables Any tt)

  -- ---- two runs

  -- numbers of values that agree
  abbrev NumbersAgree : Label → Label → Pairing → Number → Number → Type 0
  NumbersAgree l m γ n k = Alike observer l m (n ≡ k)

  ok_or : Number → Result Number LeftNumbers → Number
  ok_or n (Ok k) = k
  ok_or n (Err e) = n

  lock_numbered_by : {β : Pairing} (a b : Result Number LeftNumbers) (l m : Label) → Alike observer l m (a ≡ b) → Lockstep observer tables (NumbersAgree l m) β (numbered_by a) (numbered_by b)
  unfolding numbered_by ok_or
  lock_numbered_by {β} (Ok n) (Ok k) l m z = lock_ret observer tables (NumbersAgree l m) β (λ γ e. alike_map observer (λ d. ap (ok_or n) d) z)
  lock_numbered_by (Ok n) (Err e) l m z = record { steps = λ γ x s t r w. ends_second observer tables (NumbersAgree l m) r (front_refl s.lines) }
  lock_numbered_by (Err e) b l m z = record { steps = λ γ x s t r w. ends_first observer tables (NumbersAgree l m) r ((conf_numbered_by b).adds t) }

  number_same : {β : Pairing} {v u : Value} → SameValue β v u → number_in v ≡ number_in u
  number_same primitives = refl
  number_same (objects p) = refl

  lock_numbered : {β : Pairing} (v u : Val) → Agree observer β v u → Lockstep observer tables (NumbersAgree v.label u.label) β (numbered v) (numbered u)
  unfolding numbered
  lock_numbered v u a = lock_numbered_by (number_in v.value) (number_in u.value) v.label u.label (alike_map observer (λ z. number_same z) a)

  -- by a label that is seen: what is no number of a `length` throws
  range_stops : (given label : Label) → Hides observer given → Mum observer tables {X = Val} Never (throw_error kinds.RangeError (union label given))
  range_stops given label h = mum_throw observer tables Never kinds.RangeError (union label given) (hides_second observer label given h)

  lock_given : {β : Pairing} (b c : Bool) (n k : ℕ) (given beside label other : Label) (f g : ℕ → Label → L Val) → Sees observer label → label ≡ other → Alike observer given beside ((b ≡ c) × (n ≡ k))
      → ((n : ℕ) (l : Label) → Confined observer tables (f n l)) → ((n : ℕ) (l : Label) → Confined observer tables (g n l)) → ((n k : ℕ) (l m : Label) → Alike observer l m (n ≡ k) → Lockstep observer tables (Agree observer) β (f n l) (g k m))
      → Lockstep observer tables (Agree observer) β (given_count b n given label f) (given_count c k beside other g)
  unfolding given_count
  lock_given true true n k given beside label other f g h e z cf cg next = next n k given beside (alike_map observer (λ x. x.1) z)
  lock_given false false n k given beside label other f g h e z cf cg next = record { steps = λ γ x s t r w. thrown_both observer tables (Agree observer) kinds.RangeError s t (alike_join observer (λ (u : Unit {0}) v. tt) (seen h e tt) z) r w }
  lock_given true false n k given beside label other f g h e (seen x y z) cf cg next = absurd (true≢false z.0)
  lock_given false true n k given beside label other f g h e (seen x y z) cf cg next = absurd (true≢false (sym z.0))
  lock_given true false n k given beside label other f g h e (hidden x y) cf cg next = record { steps = λ γ i s t r w. stops_second observer tables (Agree observer) r ((cf n given).adds s) ((range_stops beside other y).mute t (seen_other observer tables r w)) }
  lock_given false true n k given beside label other f g h e (hidden x y) cf cg next = record { steps = λ γ i s t r w. stops_first observer tables (Agree observer) r ((range_stops given label x).mute s w) ((cg k beside).adds t) }

  module _ {E D : Enters} (ce : EntersConfined observer tables E) (cd : EntersConfined observer tables D) (in_step : EntersInStep observer tables E D) where
    pub lock_access : {β : Pairing} {a b : Access} → AccessesAgree observer β a b → Lockstep observer tables (Agree observer) β (entered_access functions E a) (entered_access functions D b)
    unfolding entered_access
    lock_access {β} (both_values q) = lock_ret observer tables (Agree observer) β (λ γ e. agree_more observer e q)
    lock_access (both_getters s e p q) = lock_call_value observer tables functions ce cd in_step (seen s e (objects p)) q nils
    lock_access {a = a} {b = b} (hidden_accesses h k) = lock_hidden observer tables (mum_access ce a h) (mum_access cd b k)

    converted_seen : {β : Pairing} (b : Bool) (h : Hint) (l m : Label) {v u x y : Val} → Alike observer l m (Unit {0}) → Agree observer β v u → Agree observer β x y → Lockstep observer tables (Agree observer) β (converted_by b E h l v x) (converted_by b D h m u y)
    unfolding converted_by convert
    converted_seen {β} true h l m {v} {u} a r q = lock_settled observer tables (lock_scope observer tables (Agree observer) kind.Native a (λ d. ce.conversion h v) (λ d. cd.conversion h u) (λ p d. in_step.conversion β h v u r))
    converted_seen {β} false h l m a r q = lock_ret observer tables (Agree observer) β (λ γ e. agree_more observer e q)

    -- where the labels are seen both are converted, or neither is. Where they are hidden, so are those of the values
    pub lock_converted : {β : Pairing} {b d : Bool} (h : Hint) (l m : Label) {v u x y : Val} → Alike observer l m (b ≡ d) → (Hides observer l → Hides observer x.label) → (Hides observer m → Hides observer y.label) → Agree observer β v u → Agree observer β x y
        → Lockstep observer tables (Agree observer) β (converted_by b E h l v x) (converted_by d D h m u y)
    lock_converted {β} {b} {d} h l m {v} {u} {x} {y} (seen s e k) f g r q = subst (λ i. Lockstep observer tables (Agree observer) β (converted_by b E h l v x) (converted_by i D h m u y)) k (converted_seen b h l m {v = v} {u = u} {x = x} {y = y} (seen s e tt) r q)
    lock_converted {β} {b} {d} h l m {v} {u} {x} {y} (hidden i j) f g r q = lock_hidden observer tables (mum_converted ce b h l v x i (f i)) (mum_converted cd d h m u y j (g j))

    lock_for_length : {β : Pairing} (l m : Label) {v u : Val} → Sees observer l → l ≡ m → Agree observer β v u → Lockstep observer tables (Agree observer) β (converted_for_length E l v) (converted_for_length D m u)
    unfolding converted_for_length
    lock_for_length {β} l m {v} {u} s e a = lock_converted hint.Number (union l v.label) (union m u.label) {v = v} {u = u} {x = v} {y = u} (alike_join observer (λ (x : Unit {0}) y. object_same observer tables y) (seen s e tt) a)
        (λ h. behind l v.label s h) (λ h. behind m u.label (subst (Sees observer) e s) h) a a
      where
        behind : (a b : Label) → Sees observer a → Hides observer (union a b) → Hides observer b
        behind a b x h = ⊎_elim (λ y. absurd (not_both observer a x y)) (λ y. y) (hidden_part observer a b h)

    pub lock_count : {β : Pairing} (l m : Label) {v u : Val} (f g : ℕ → Label → L Val) → Sees observer l → l ≡ m → Agree observer β v u → ((n : ℕ) (a : Label) → Confined observer tables (f n a)) → ((n : ℕ) (a : Label) → Confined observer tables (g n a))
        → ((γ : Pairing) → Extends β γ → (n k : ℕ) (a b : Label) → Alike observer a b (n ≡ k) → Lockstep observer tables (Agree observer) γ (f n a) (g k b)) → Lockstep observer tables (Agree observer) β (with_count E l v f) (with_count D m u g)
    unfolding with_count
    lock_count {β} l m {v} {u} f g s e a cf cg next =
        lock_bind observer tables (Agree observer) (Agree observer) (first_one E l v f) (first_one D m u g) (lock_for_length l m s e a) (λ x. conf_first ce l v f cf x) (λ x. conf_first cd m u g cg x)
        (λ γ z one other p. lock_bind observer tables (NumbersAgree one.label other.label) (Agree observer) (then_one E l v f one) (then_one D m u g other) (lock_numbered one other p) (λ x. conf_then ce l v f cf one x) (λ x. conf_then cd m u g cg other x)
        (λ δ y i j q. lock_bind observer tables (Agree observer) (Agree observer) (second_one l f one i) (second_one m g other j) (lock_for_length l m s e (agree_more observer (extends_trans z y) a)) (λ x. conf_second ce l f cf one i x) (λ x. conf_second cd m g cg other j x)
        (λ ε d two another b. lock_bind observer tables (NumbersAgree two.label another.label) (Agree observer) (last_one l f one i two) (last_one m g other j another) (lock_numbered two another b) (λ x. conf_last ce l f cf one i two x) (λ x. conf_last cd m g cg other j another x)
        (λ ζ h n k c. lock_given (is_count i n) (is_count j k) (count_of i) (count_of j) (union one.label two.label) (union other.label another.label) l m f g s e
        (alike_join observer (λ (x : i ≡ j) (y : n ≡ k). (ap₂ is_count x y, ap count_of x)) q c) cf cg (λ n' k' a' b' w. next ζ (extends_trans z (extends_trans y (extends_trans d h))) n' k' a' b' w)))))

    -- what definitions come to
    pub lock_defining : {β : Pairing} {v u : Val} {a b : Defining} → Agree observer β v u → DefiningsAgree observer β a b → Lockstep observer tables (Agree observer) β (entered_defining E v a) (entered_defining D u b)
    unfolding entered_defining
    lock_defining {β} r (both_defined s e) = lock_ret observer tables (Agree observer) β (λ γ x. seen s e primitives)
    lock_defining r (both_give_lengths {l = l} {m = m} {o = o} {q = q} {marks = marks} s e p) = lock_count l m (set_length true l o marks) (set_length true m q marks) s e r
        (λ n a. conf_set_length observer tables true l o marks n a) (λ n a. conf_set_length observer tables true m q marks n a)
        (λ γ x n k a b z. record { steps = λ δ y s' t' r' w. set_length_after observer tables true l m a b marks o q n k s' t' s e z (y.objects o q (x.objects o q p)) r' w })
    lock_defining {v = v} {u = u} {a = a} {b = b} r (hidden_definings h k) = lock_hidden observer tables (mum_defining ce v a h) (mum_defining cd u b k)

    pub lock_putting : {β : Pairing} {v u : Val} {a b : Putting} → Agree observer β v u → PuttingsAgree observer β a b → Lockstep observer tables Nothing β (entered_putting functions E v a) (entered_putting functions D u b)
    unfolding entered_putting
    lock_putting {β} r both_put = lock_ret observer tables Nothing β (λ γ e. tt)
    lock_putting r (both_setters s e p q) = lock_bind observer tables (Agree observer) Nothing (λ u. ret tt) (λ u. ret tt) (lock_call_value observer tables functions ce cd in_step (seen s e (objects p)) q (conses r nils))
        (λ u. conf_ret observer tables tt) (λ u. conf_ret observer tables tt) (λ γ x a b z. lock_ret observer tables Nothing γ (λ δ y. tt))
    lock_putting r (both_lengths {l = l} {m = m} {o = o} {q = q} s e p) = lock_bind observer tables (Agree observer) Nothing (λ u. ret tt) (λ u. ret tt)
        (lock_count l m (set_length false l o no_marks) (set_length false m q no_marks) s e r
        (λ n a. conf_set_length observer tables false l o no_marks n a) (λ n a. conf_set_length observer tables false m q no_marks n a)
        (λ γ x n k a b z. record { steps = λ δ y s' t' r' w. set_length_after observer tables false l m a b no_marks o q n k s' t' s e z (y.objects o q (x.objects o q p)) r' w }))
        (λ u. conf_ret observer tables tt) (λ u. conf_ret observer tables tt) (λ γ x a b z. lock_ret observer tables Nothing γ (λ δ y. tt))
    lock_putting {v = v} {u = u} {a = a} {b = b} r (hidden_puttings h k) = lock_mum observer tables Any Nothing (λ γ x y p q. tt) (mum_putting ce v a h) (mum_putting cd u b k)
