-- Two labelled readings are linked by what an observer can tell: in worlds in which the runs are in step, and in that in which each goes by itself.
use Rattle.std.proofs.Common.{◌≡◌, ℕ, zero, suc, List, [], ◌∷◌, Bool, true, false, Option, refl, ◌∙◌, ap, ap₂, subst}
use Rattle.origin_labels.specs.Label.{Label, bottom, union}
use Rattle.flow_policy.specs.Policies.{Tables}
use Rattle.flow_policy.specs.Inputs.{Given}
use Rattle.flow_policy.specs.Observed as policy
use Rattle.flow_frames.specs.declared.kind.Kind.TheVariants as kind
use Rattle.js_values.specs.declared.value.Value.{Value}
use Rattle.js_values.specs.declared.value.Value.TheVariants as value
use Rattle.es_meaning.specs.Outcomes.{ret, ◌>>=◌}
use Rattle.es_meaning.specs.Environments.{Env, with_around, aimed}
use Rattle.js_ast.specs.Functions.{FunctionCode}
use Rattle.es_meaning.specs.BuiltIns.{BuiltIns}
use Rattle.es_meaning.specs.Operations.{Ty, One, Res, Calling, calls, constructs, Visit}
use Rattle.es_meaning.specs.Operations.{Value as a_value}
use Rattle.es_meaning.specs.Operators.{is_object, truth, converts_beside}
use Rattle.js_ast.specs.Trees.{Statements}
use Rattle.native_protocol.specs.declared.hint.Hint.TheVariants as hint
use Rattle.native_protocol.specs.declared.request.Seen.{Seen}
use Rattle.es_meaning.specs.Evaluation.{eval, program_step, entering}
use Rattle.es_meaning.specs.Plain.{choose}
use Rattle.es_meaning.proofs.Link as link
use Rattle.es_meaning.proofs.Link.{Rel, Rels, nils, conses, EnteringLinked, Visits, visits_of, Callings, both_call, both_construct, Link, Linked, entering_linked}
use Rattle.es_meaning.proofs.RequestLinks as requests
use Rattle.es_meaning.proofs.RequestLinks.{linked, ticking_linked, begun_linked}
use Rattle.flow_meaning.specs.Erased.{unlabelled}
use Rattle.flow_meaning.specs.Scopes.{Val, joined, L, Left, settled, raise, fork, round_kind, round, again}
use Rattle.flow_meaning.specs.Tracked.{Reference, Access, Putting, Defining, entered_defining, seen as seen_in, resolved, key_list, with_list, Enters, entered_access, entered_putting, jumps_to, raised_by, named_origins, base_of, labelled, timed}
use Rattle.low_equal.specs.Observed.{Sees}
use Rattle.low_equal.specs.LowEqual.{Pairing, Extends, seen, SameValue, primitives, objects, Agree, AllAgree}
use Rattle.low_equal.specs.Runs.{Confined, Lockstep}
use Rattle.low_equal.specs.Laws.{EnvsAgree, VisitsAgree, Nothing, IsConfining, IsLockstep}
use Rattle.low_equal.proofs.Labels.{sees_bottom}
use Rattle.low_equal.proofs.Agreement.{extends_refl, extends_trans, alike_map, alike_join, agree_more, agree_joined, agree_seen, label_alike}
use Rattle.low_equal.proofs.References.{ReferencesAgree, in_records, on_globals, nowheres, found_first, found_second, properties, references_more, AccessesAgree, resolved_agree, undefined_agree, conf_accessed, lock_accessed, conf_typeof, lock_typeof}
use Rattle.low_equal.proofs.Puts.{PuttingsAgree, conf_put, lock_put}
use Rattle.low_equal.proofs.Deletions.{conf_remove, lock_remove}
use Rattle.low_equal.proofs.ObjectActs.{key_same, conf_keys, lock_keys}
use Rattle.low_equal.proofs.AllActs.{conf_act, lock_act}
use Rattle.low_equal.proofs.Looks.{conf_look, lock_look, conf_throw_value, lock_throw_value}
use Rattle.low_equal.proofs.Lines.{front_refl}
use Rattle.low_equal.proofs.Steps.{LeftAgree, conf_ret, conf_ends, conf_bind, conf_scope, lock_ret, lock_bind, lock_scope, ends_first, ends_second}
use Rattle.low_equal.proofs.Acts.{conf_jump, conf_raise, lock_raise, conf_tick, lock_tick, conf_given, conf_unary, lock_unary, lock_binary}
use Rattle.low_equal.proofs.Entries.{conf_declare, lock_declare}
use Rattle.low_equal.proofs.Makes.{conf_function, lock_function}
use Rattle.low_equal.proofs.Aims.{rels_of}
use Rattle.low_equal.proofs.Calls.{EntersConfined, EntersInStep, conf_choose, conf_call_value, conf_construct_value}
use Rattle.low_equal.proofs.CallsAgree.{settled_agree, lock_call_value, lock_construct_value}
use Rattle.low_equal.proofs.Defines.{DefiningsAgree, conf_define, lock_define}
use Rattle.low_equal.proofs.Accesses.{conf_access, lock_access, conf_putting, lock_putting, conf_defining, lock_defining, conf_converted, lock_converted}
use Rattle.low_equal.proofs.Instances.{conf_is, conf_instance, lock_instance}
use Rattle.low_equal.proofs.Jumps.{aimed_same, conf_jumps, lock_jumps, conf_raised_by, lock_raised_by, conf_attempt, lock_attempt}

-- the runs are in step, with these pairs; or each goes by itself
pub data World : Type 0 where
  Together : Pairing → World
  Apart : World

pub data Le : World → World → Type 0 where
  grows : {β γ : Pairing} → Extends β γ → Le (Together β) (Together γ)
  parts : {w : World} → Le w Apart

le_itself : (w : World) → Le w w
le_itself (Together β) = grows (extends_refl β)
le_itself Apart = parts

le_along : {u v w : World} → Le u v → Le v w → Le u w
le_along (grows p) (grows q) = grows (extends_trans p q)
le_along (grows p) parts = parts
le_along parts parts = parts

le_extends : {β γ : Pairing} → Le (Together β) (Together γ) → Extends β γ
le_extends (grows p) = p

-- what is related in a world
pub data Related {V : Type 0} (R : Pairing → V → V → Type 0) : World → V → V → Type 0 where
  related : {β : Pairing} {v u : V} → R β v u → Related R (Together β) v u
  any : {v u : V} → Related R Apart v u

related_in : {V : Type 0} {R : Pairing → V → V → Type 0} {β : Pairing} {v u : V} → Related R (Together β) v u → R β v u
related_in (related r) = r

more_related : {V : Type 0} {R : Pairing → V → V → Type 0} {w w' : World} {v u : V} → ((β γ : Pairing) → Extends β γ → R β v u → R γ v u) → Le w w' → Related R w v u → Related R w' v u
more_related h (grows p) (related r) = related (h _ _ p r)
more_related h parts r = any

abbrev PairedRecords : Pairing → ℕ → ℕ → Type 0
PairedRecords β i j = β.records i j ≡ true

envs_more : {β γ : Pairing} {e d : Env ℕ} → Extends β γ → EnvsAgree β e d → EnvsAgree γ e d
envs_more h r = record { place = h.records _ _ r.place; call = r.call; around = r.around }

-- one truth of values that are the same
truth_same : {β : Pairing} {v u : Value} → SameValue β v u → truth v ≡ truth u
truth_same primitives = refl
truth_same (objects p) = refl

-- both are objects, or neither is
object_same : {β : Pairing} {v u : Value} → SameValue β v u → is_object v ≡ is_object u
object_same primitives = refl
object_same (objects p) = refl

-- and both are converted beside others, or neither is
beside_same : {β : Pairing} {v u x y : Value} → SameValue β v u → SameValue β x y → converts_beside v x ≡ converts_beside u y
beside_same primitives q = refl
beside_same (objects p) primitives = refl
beside_same (objects p) (objects q) = refl

-- values in registers
any_list : {observer : Label} (vs : List Val) → Rels (Related (Agree observer) Apart) vs vs
any_list [] = nils
any_list (v ∷ vs) = conses any (any_list vs)

together : {observer : Label} {β : Pairing} {vs us : List Val} → Rels (Agree observer β) vs us → Rels (Related (Agree observer) (Together β)) vs us
together nils = nils
together (conses r q) = conses (related r) (together q)

module _ (observer : Label) (tables : Tables) where
  -- results that agree
  abbrev Results : (t : Ty) → Pairing → Res Val t → Res Val t → Type 0
  Results One β a b = Unit {0}
  Results a_value β a b = Agree observer β a b

  abbrev Step : (t : Ty) → World → L (Res Val t) → L (Res Val t) → Type 0
  Step t (Together β) m n = Lockstep observer tables (Results t) β m n
  Step t Apart m n = Unit {0}

  -- both are confined, and go in step where they are together
  pub record Lift (t : Ty) (w : World) (m n : L (Res Val t)) : Type 0 where
    pub left : Confined observer tables m
    pub right : Confined observer tables n
    pub step : Step t w m n

  any_result : (t : Ty) (a b : Res Val t) → Rel (Related (Agree observer)) t Apart a b
  any_result One a b = tt
  any_result a_value a b = any

  result : (t : Ty) (β : Pairing) (a b : Res Val t) → Results t β a b → Rel (Related (Agree observer)) t (Together β) a b
  result One β a b p = tt
  result a_value β a b p = related p

  -- a step of two runs is only asked where they are together
  lift : {t : Ty} {m n : L (Res Val t)} (w : World) → Confined observer tables m → Confined observer tables n → ((β : Pairing) → Le w (Together β) → Lockstep observer tables (Results t) β m n) → Lift t w m n
  lift (Together β) c d h = record { left = c; right = d; step = h β (grows (extends_refl β)) }
  lift Apart c d h = record { left = c; right = d; step = tt }

  lock_of : {t : Ty} {m n : L (Res Val t)} {w : World} {β : Pairing} → Le w (Together β) → Lift t w m n → Lockstep observer tables (Results t) β m n
  lock_of {w = Together γ} e l = record { steps = λ δ d s t r v. l.step.steps δ (extends_trans (le_extends e) d) s t r v }
  lock_of {w = Apart} e l = elim e [ ]

  bind_link : (t u : Ty) {w : World} {m n : L (Res Val t)} (f g : Res Val t → L (Res Val u)) → Lift t w m n
      → ((w' : World) → Le w w' → (a b : Res Val t) → Rel (Related (Agree observer)) t w' a b → Lift u w' (f a) (g b)) → Lift u w (m >>= f) (n >>= g)
  bind_link t u {w = w} f g l h =
      let cf : (a : Res Val t) → Confined observer tables (f a) = λ a. (h Apart parts a a (any_result t a a)).left in
      let cg : (a : Res Val t) → Confined observer tables (g a) = λ a. (h Apart parts a a (any_result t a a)).right in
      lift w (conf_bind observer tables f l.left cf) (conf_bind observer tables g l.right cg)
      (λ β e. lock_bind observer tables (Results t) (Results u) f g (lock_of e l) cf cg (λ γ d a b p. (h (Together γ) (le_along e (grows d)) a b (result t γ a b p)).step))

  -- an act of which both laws are known
  act : {t : Ty} (w : World) {m n : L (Res Val t)} → Confined observer tables m → Confined observer tables n → ((β : Pairing) → Le w (Together β) → Lockstep observer tables (Results t) β m n) → Lift t w m n
  act w c d h = lift w c d h

  value_in : {w : World} {v u : Val} {β : Pairing} → Le w (Together β) → Related (Agree observer) w v u → Agree observer β v u
  value_in e r = related_in (more_related (λ β γ h q. agree_more observer h q) e r)

  reference_in : {w : World} {n m : Reference} {β : Pairing} → Le w (Together β) → Related (ReferencesAgree observer) w n m → ReferencesAgree observer β n m
  reference_in e r = related_in (more_related (λ β γ h q. references_more observer tables h q) e r)

  place_in : {w : World} {i j : ℕ} {β : Pairing} → Le w (Together β) → Related PairedRecords w i j → β.records i j ≡ true
  place_in e r = related_in (more_related (λ β γ h p. h.records _ _ p) e r)

  env_in : {w : World} {e d : Env ℕ} {β : Pairing} → Le w (Together β) → Related EnvsAgree w e d → EnvsAgree β e d
  env_in l r = related_in (more_related (λ β γ h q. envs_more h q) l r)

  rels_in : {w : World} {vs us : List Val} {β : Pairing} → Le w (Together β) → Rels (Related (Agree observer) w) vs us → Rels (Agree observer β) vs us
  rels_in e nils = nils
  rels_in e (conses r q) = conses (value_in e r) (rels_in e q)

  -- ---- scopes

  -- where a value is seen, the same is chosen
  pick : (t : Ty) (b c : Bool) {m n m' n' : L (Res Val t)} (β : Pairing) → Lockstep observer tables (Results t) β m m' → Lockstep observer tables (Results t) β n n' → b ≡ c → Lockstep observer tables (Results t) β (choose b m n) (choose c m' n')
  pick t b c {m} {n} {m'} {n'} β l k p = subst (λ x. Lockstep observer tables (Results t) β (choose b m n) (choose x m' n')) p (go b)
    where
      go : (x : Bool) → Lockstep observer tables (Results t) β (choose x m n) (choose x m' n')
      go true = l
      go false = k

  truth_seen : {β : Pairing} {v u : Val} → Agree observer β v u → Sees observer v.label → truth v.value ≡ truth u.value
  truth_seen r p = truth_same (agree_seen observer r p)

  -- what a branch gives
  settled_both : (t : Ty) {γ : Pairing} (c d : Left (Res Val t)) → LeftAgree observer tables (Results t) γ c d → Results t γ (settled t c) (settled t d)
  settled_both One c d r = tt
  settled_both a_value c d r = settled_agree observer tables c d r

  fork_link : (t : Ty) {w : World} {v u : Val} {m n m' n' : L (Res Val t)} → Related (Agree observer) w v u → ((w' : World) → Le w w' → Lift t w' m m') → ((w' : World) → Le w w' → Lift t w' n n') → Lift t w (fork t v m n) (fork t u m' n')
  fork_link t {w} {v} {u} {m} {n} {m'} {n'} r l k =
      let a = l w (le_itself w) in
      let b = k w (le_itself w) in
      let c : (d : ℕ) → Confined observer tables (choose (truth v.value) m n) = λ d. conf_choose observer tables (truth v.value) a.left b.left in
      let c' : (d : ℕ) → Confined observer tables (choose (truth u.value) m' n') = λ d. conf_choose observer tables (truth u.value) a.right b.right in
      let f : Left (Res Val t) → L (Res Val t) = λ x. ret (settled t x) in
      lift w (conf_bind observer tables f (conf_scope observer tables kind.Branch v.label c) (λ x. conf_ret observer tables (settled t x)))
      (conf_bind observer tables f (conf_scope observer tables kind.Branch u.label c') (λ x. conf_ret observer tables (settled t x)))
      (λ β e. let q = value_in e r in
      lock_bind observer tables (LeftAgree observer tables (Results t)) (Results t) f f
      (lock_scope observer tables (Results t) kind.Branch (label_alike observer q) c c' (λ p d. pick t (truth v.value) (truth u.value) β (lock_of e a) (lock_of e b) (truth_seen q p)))
      (λ x. conf_ret observer tables (settled t x)) (λ x. conf_ret observer tables (settled t x))
      (λ γ d x y z. lock_ret observer tables (Results t) γ (λ δ g. more_left t (settled t x) (settled t y) g (settled_both t x y z))))
    where
      more_left : (t : Ty) {γ δ : Pairing} (a b : Res Val t) → Extends γ δ → Results t γ a b → Results t δ a b
      more_left One a b g z = tt
      more_left a_value a b g z = agree_more observer g z

  round_link : {w : World} (turn : Bool) (labels : List (Option (List ℕ))) {e d : Env ℕ} (k k' : Env ℕ → L (Unit {0})) → Related EnvsAgree w e d
      → ((w' : World) → Le w w' → (e' d' : Env ℕ) → Related EnvsAgree w' e' d' → Lift One w' (k e') (k' d')) → Lift One w (round turn labels e k) (round turn labels d k')
  round_link {w} turn labels {e} {d} k k' r h =
      let c : (n : ℕ) → Confined observer tables (k (with_around turn labels n e)) = λ n. (h Apart parts (with_around turn labels n e) (with_around turn labels n e) any).left in
      let c' : (n : ℕ) → Confined observer tables (k' (with_around turn labels n d)) = λ n. (h Apart parts (with_around turn labels n d) (with_around turn labels n d) any).right in
      let f : Left (Unit {0}) → L (Unit {0}) = λ x. ret tt in
      lift w (conf_bind observer tables f (conf_scope observer tables (round_kind turn) bottom c) (λ x. conf_ret observer tables tt)) (conf_bind observer tables f (conf_scope observer tables (round_kind turn) bottom c') (λ x. conf_ret observer tables tt))
      (λ β l. let q = env_in l r in
      lock_bind observer tables (LeftAgree observer tables Nothing) Nothing f f
      (lock_scope observer tables Nothing (round_kind turn) (seen (sees_bottom observer) refl tt) c c'
      (λ p n. (h (Together β) l (with_around turn labels n e) (with_around turn labels n d) (related (record { place = q.place; call = q.call; around = ap (λ x. record { labels = labels; turn = turn; to = n } ∷ x) q.around }))).step))
      (λ x. conf_ret observer tables tt) (λ x. conf_ret observer tables tt) (λ γ x a b z. lock_ret observer tables Nothing γ (λ δ g. tt)))

  again_link : {w : World} {v u : Val} {m n m' n' : L (Unit {0})} → Related (Agree observer) w v u → Lift One w m m' → Lift One w n n' → Lift One w (again v m n) (again u m' n')
  again_link {w} {v} {u} {m} {n} {m'} {n'} r l k =
      let c = conf_choose observer tables (truth v.value) l.left k.left in
      let d = conf_choose observer tables (truth u.value) l.right k.right in
      lift w (conf_bind observer tables _ (conf_raise observer tables v.label) (λ a. c)) (conf_bind observer tables _ (conf_raise observer tables u.label) (λ a. d))
      (λ β e. let q = value_in e r in
      lock_bind observer tables (λ γ a b. truth v.value ≡ truth u.value) Nothing _ _ (lock_raise observer tables (truth v.value ≡ truth u.value) (label_alike observer q) (truth_seen q)) (λ a. c) (λ a. d)
      (λ γ x a b p. pick One (truth v.value) (truth u.value) γ (lock_of (le_along e (grows x)) l) (lock_of (le_along e (grows x)) k) p))

  -- ---- the keys of a value

  keys_link : {w : World} {v u : Val} (k k' : List (List ℕ) → L (Unit {0})) → Related (Agree observer) w v u → ((w' : World) → Le w w' → (ks : List (List ℕ)) → Lift One w' (k ks) (k' ks))
      → Lift One w (λ s. with_list (key_list s.heap v.value) v.label k s) (λ s. with_list (key_list s.heap u.value) u.label k' s)
  keys_link {w} {v} {u} k k' r h =
      let c : (ks : List (List ℕ)) → Confined observer tables (k ks) = λ ks. (h Apart parts ks).left in
      let d : (ks : List (List ℕ)) → Confined observer tables (k' ks) = λ ks. (h Apart parts ks).right in
      lift w (conf_keys observer tables v k c) (conf_keys observer tables u k' d) (λ β e. lock_keys observer tables k k' (value_in e r) c d (λ ks. lock_of (le_itself (Together β)) (h (Together β) e ks)))

  -- ---- names

  resolve_link : (t : Ty) {w : World} {i j : ℕ} (x : List ℕ) (k k' : Reference → L (Res Val t)) → Related PairedRecords w i j
      → ((w' : World) → Le w w' → (n n' : Reference) → Related (ReferencesAgree observer) w' n n' → Lift t w' (k n) (k' n')) → Lift t w (λ s. k (resolved s.records s.heap i x) s) (λ s. k' (resolved s.records s.heap j x) s)
  resolve_link t {w} {i} {j} x k k' r h =
      let c : (n : Reference) → Confined observer tables (k n) = λ n. (h Apart parts n n any).left in
      let d : (n : Reference) → Confined observer tables (k' n) = λ n. (h Apart parts n n any).right in
      lift w
      (record { still = λ s p. (c (resolved s.records s.heap i x)).still s p; fits = λ s. (c (resolved s.records s.heap i x)).fits s; adds = λ s. (c (resolved s.records s.heap i x)).adds s })
      (record { still = λ s p. (d (resolved s.records s.heap j x)).still s p; fits = λ s. (d (resolved s.records s.heap j x)).fits s; adds = λ s. (d (resolved s.records s.heap j x)).adds s })
      (λ β e. record {
        steps = λ γ g s u l v.
            let a = resolved_agree observer tables x {i = i} {j = j} l (g.records i j (place_in e r)) in
            (h (Together γ) (le_along e (grows g)) (resolved s.records s.heap i x) (resolved u.records u.heap j x) (related a)).step.steps γ (extends_refl γ) s u l v;
      })

  look_link : {w : World} {v u : Val} (k k' : Seen → L Val) → Related (Agree observer) w v u → ((w' : World) → Le w w' → (x : Seen) → Lift a_value w' (k x) (k' x))
      → Lift a_value w (raise v.label >>= λ a s. k (seen_in s.heap v.value) s) (raise u.label >>= λ a s. k' (seen_in s.heap u.value) s)
  look_link {w} {v} {u} k k' r h =
      let c : (x : Seen) → Confined observer tables (k x) = λ x. (h Apart parts x).left in
      let d : (x : Seen) → Confined observer tables (k' x) = λ x. (h Apart parts x).right in
      lift w (conf_look observer tables v k c) (conf_look observer tables u k' d) (λ β e. lock_look observer tables (Agree observer) v u k k' (value_in e r) c d (λ γ x z. (h (Together γ) (le_along e (grows x)) z).step))

  -- ---- how what is called is entered

  abbrev Entered : Enters → Enters → Type 0
  Entered E D = EnteringLinked World (Related (Agree observer)) (Related EnvsAgree) Lift E D

  entered_left : {E D : Enters} → Entered E D → EntersConfined observer tables E
  entered_left h = record {
    body = λ ss e. (h.body Apart ss e e any).left;
    built_in = λ which construct vs. (h.built_in Apart which construct vs vs (any_list vs)).left;
    conversion = λ kind v. (h.conversion Apart kind v v any).left;
  }

  entered_right : {E D : Enters} → Entered E D → EntersConfined observer tables D
  entered_right h = record {
    body = λ ss e. (h.body Apart ss e e any).right;
    built_in = λ which construct vs. (h.built_in Apart which construct vs vs (any_list vs)).right;
    conversion = λ kind v. (h.conversion Apart kind v v any).right;
  }

  entered_step : {E D : Enters} → Entered E D → EntersInStep observer tables E D
  entered_step h = record {
    body = λ β ss e d r. (h.body (Together β) ss e d (related r)).step;
    built_in = λ β which construct vs us r. (h.built_in (Together β) which construct vs us (together r)).step;
    conversion = λ β kind v u r. (h.conversion (Together β) kind v u (related r)).step;
  }

  module _ (set : BuiltIns) (functions : List FunctionCode) (first second : Given) (agree : policy.Agree observer tables first second) where
    -- a read, which may enter a getter
    read_link : {w : World} {m n : L Access} {E D : Enters} → Confined observer tables m → Confined observer tables n → ((β : Pairing) → Le w (Together β) → Lockstep observer tables (AccessesAgree observer) β m n) → Entered E D
        → Lift a_value w (m >>= entered_access functions E) (n >>= entered_access functions D)
    read_link {w} {E = E} {D = D} c d l h =
        let x = entered_left h in
        let y = entered_right h in
        let cf : (a : Access) → Confined observer tables (entered_access functions E a) = λ a. conf_access observer tables functions x a in
        let cg : (a : Access) → Confined observer tables (entered_access functions D a) = λ a. conf_access observer tables functions y a in
        lift w (conf_bind observer tables (entered_access functions E) c cf) (conf_bind observer tables (entered_access functions D) d cg)
        (λ β e. lock_bind observer tables (AccessesAgree observer) (Agree observer) (entered_access functions E) (entered_access functions D) (l β e) cf cg (λ γ z a b q. lock_access observer tables functions x y (entered_step h) q))

    -- a put, which may enter a setter
    put_link : {w : World} {m n : L Putting} {v u : Val} {E D : Enters} → Related (Agree observer) w v u → Confined observer tables m → Confined observer tables n → ((β : Pairing) → Le w (Together β) → Lockstep observer tables (PuttingsAgree observer) β m n) → Entered E D
        → Lift One w (m >>= entered_putting functions E v) (n >>= entered_putting functions D u)
    put_link {w} {v = v} {u = u} {E = E} {D = D} r c d l h =
        let x = entered_left h in
        let y = entered_right h in
        let cf : (a : Putting) → Confined observer tables (entered_putting functions E v a) = λ a. conf_putting observer tables functions x v a in
        let cg : (a : Putting) → Confined observer tables (entered_putting functions D u a) = λ a. conf_putting observer tables functions y u a in
        lift w (conf_bind observer tables (entered_putting functions E v) c cf) (conf_bind observer tables (entered_putting functions D u) d cg)
        (λ β e. lock_bind observer tables (PuttingsAgree observer) Nothing (entered_putting functions E v) (entered_putting functions D u) (l β e) cf cg (λ γ z a b q. lock_putting observer tables functions x y (entered_step h) (agree_more observer z (value_in e r)) q))

    -- a definition, which may convert a value for a `length`
    define_link : {w : World} {m n : L Defining} {v u : Val} {E D : Enters} → Related (Agree observer) w v u → Confined observer tables m → Confined observer tables n → ((β : Pairing) → Le w (Together β) → Lockstep observer tables (DefiningsAgree observer) β m n) → Entered E D
        → Lift a_value w (m >>= entered_defining E v) (n >>= entered_defining D u)
    define_link {w} {v = v} {u = u} {E = E} {D = D} r c d l h =
        let x = entered_left h in
        let y = entered_right h in
        let cf : (a : Defining) → Confined observer tables (entered_defining E v a) = λ a. conf_defining observer tables functions x v a in
        let cg : (a : Defining) → Confined observer tables (entered_defining D u a) = λ a. conf_defining observer tables functions y u a in
        lift w (conf_bind observer tables (entered_defining E v) c cf) (conf_bind observer tables (entered_defining D u) d cg)
        (λ β e. lock_bind observer tables (DefiningsAgree observer) (Agree observer) (entered_defining E v) (entered_defining D u) (l β e) cf cg (λ γ z a b q. lock_defining observer tables functions x y (entered_step h) (agree_more observer z (value_in e r)) q))

    -- the labelled meanings on two inputs
    pub observed : Link (labelled tables first set functions) (labelled tables second set functions)
    observed = record {
      W = World;
      Le = Le;
      RV = Related (Agree observer);
      RN = Related (ReferencesAgree observer);
      RP = Related PairedRecords;
      RE = Related EnvsAgree;
      Lift = Lift;
      Inside = Le;
      inside_v = λ l r. more_related (λ β γ h q. agree_more observer h q) l r;
      le_refl = le_itself;
      le_trans = le_along;
      more_v = λ l r. more_related (λ β γ h q. agree_more observer h q) l r;
      more_n = λ l r. more_related (λ β γ h q. references_more observer tables h q) l r;
      more_p = λ l r. more_related (λ β γ h p. h.records _ _ p) l r;
      more_e = λ l r. more_related (λ β γ h q. envs_more h q) l r;
      place_of = place_of_env;
      ret_one = λ w. lift w (conf_ret observer tables tt) (conf_ret observer tables tt) (λ β e. lock_ret observer tables (Results One) β (λ γ d. tt));
      ret_value = λ {w = w} {a = a} {b = b} r. lift w (conf_ret observer tables a) (conf_ret observer tables b) (λ β e. lock_ret observer tables (Results a_value) β (λ γ d. agree_more observer d (value_in e r)));
      bind = bind_link;
      literal = literal_in;
      unary = λ {w = w} o {v = v} {v' = u} r. lift w (conf_unary observer tables o v) (conf_unary observer tables o u) (λ β e. lock_unary observer tables o (value_in e r));
      binary = λ {w = w} o r q. lift w (conf_given observer tables _ _) (conf_given observer tables _ _) (λ β e. lock_binary observer tables o (value_in e r) (value_in e q));
      primitive = λ {w = w} kind {v = v} {v' = u} r h. lift w (conf_converted observer tables functions (entered_left h) (is_object v.value) kind v.label v v) (conf_converted observer tables functions (entered_right h) (is_object u.value) kind u.label u u)
          (λ β e. lock_converted observer tables functions (entered_left h) (entered_right h) (entered_step h) kind v.label u.label (alike_map observer object_same (value_in e r)) (λ k. k) (λ k. k) (value_in e r) (value_in e r));
      comparable = λ {w = w} {v = v} {u = u} {v' = v'} {u' = u'} r q h. lift w (conf_converted observer tables functions (entered_left h) (converts_beside v.value u.value) hint.Default (union v.label u.label) v (joined u.label v))
          (conf_converted observer tables functions (entered_right h) (converts_beside v'.value u'.value) hint.Default (union v'.label u'.label) v' (joined u'.label v'))
          (λ β e. lock_converted observer tables functions (entered_left h) (entered_right h) (entered_step h) hint.Default (union v.label u.label) (union v'.label u'.label) (alike_join observer beside_same (value_in e r) (value_in e q)) (λ k. k) (λ k. k) (value_in e r) (agree_joined observer (label_alike observer (value_in e q)) (value_in e r)));
      look = look_link;
      throw = λ {w = w} {v = v} {v' = u} r. lift w (conf_throw_value observer tables v) (conf_throw_value observer tables u) (λ β e. lock_throw_value observer tables (Agree observer) (value_in e r));
      leave = λ t w name. lift w (conf_ends observer tables _) (conf_ends observer tables _) (λ β e. record { steps = λ γ d s u r v. ends_first observer tables (Results t) r (front_refl u.lines) });
      resolve = resolve_link;
      act = λ {w = w} f {vs = vs} {us = us} r. lift w (conf_act observer tables first f vs) (conf_act observer tables second f us) (λ β e. lock_act observer tables first second agree f (rels_in e r));
      define = λ key marks shape {base = b} {v = v} {g = g} {set = x} {base' = c} {v' = u} {g' = f} {set' = y} rb rv rg rx h. define_link rv (conf_define observer tables key marks shape b v g x) (conf_define observer tables key marks shape c u f y)
          (λ β e. lock_define observer tables key marks shape (value_in e rb) (value_in e rv) (value_in e rg) (value_in e rx)) h;
      property = λ r q. property_in r q;
      get_value = λ {n = n} {n' = m} r h. read_link (conf_accessed observer tables n) (conf_accessed observer tables m) (λ β e. lock_accessed observer tables (reference_in e r)) h;
      typeof_value = λ {n = n} {n' = m} r h. read_link (conf_typeof observer tables n) (conf_typeof observer tables m) (λ β e. lock_typeof observer tables (reference_in e r)) h;
      put_value = λ {n = n} {n' = m} {v = v} {v' = u} r q h. put_link q (conf_put observer tables n v) (conf_put observer tables m u) (λ β e. lock_put observer tables (reference_in e r) (value_in e q)) h;
      remove = λ {w = w} {n = n} {n' = m} r. lift w (conf_remove observer tables n) (conf_remove observer tables m) (λ β e. lock_remove observer tables (reference_in e r));
      fork = fork_link;
      round = round_link;
      again = again_link;
      keys = keys_link;
      function = λ {w = w} f {i = i} {j = j} r. lift w (conf_function observer tables functions f i) (conf_function observer tables functions f j) (λ β e. lock_function observer tables functions f i j (place_in e r));
      jump = λ {w = w} leaving {e = e} {d = d} {v = v} {v' = u} r q. lift w (conf_jumps observer tables (aimed 0 leaving e) v) (conf_jumps observer tables (aimed 0 leaving d) u)
          (λ β l. subst (λ o. Lockstep observer tables (Results One) β (jumps_to (aimed 0 leaving e) v) (jumps_to o u)) (aimed_same (env_in l r) leaving) (lock_jumps observer tables (aimed 0 leaving e) (value_in l q)));
      raise = λ {w = w} leaving {e = e} {d = d} names r. lift w (conf_raised_by observer tables first leaving (aimed 0 leaving e) (named_origins tables first names)) (conf_raised_by observer tables second leaving (aimed 0 leaving d) (named_origins tables second names))
          (λ β l. subst (λ o. Lockstep observer tables (Results One) β (raised_by tables first leaving (aimed 0 leaving e) (named_origins tables first names)) (raised_by tables second leaving o (named_origins tables second names))) (aimed_same (env_in l r) leaving)
          (lock_raised_by observer tables first second leaving (aimed 0 leaving e) (named_origins tables first names)));
      this_of = λ r. this_in r;
      instance = λ {w = w} {v = v} {f = f} {v' = u} {f' = g} r q h. lift w (conf_instance observer tables functions (entered_left h) v f) (conf_instance observer tables functions (entered_right h) u g) (λ β e. lock_instance observer tables functions (entered_left h) (entered_right h) (entered_step h) (value_in e r) (value_in e q));
      declare = λ {w = w} name {v = v} {v' = u} {e = e} {d = d} k k' r q h.
          let c : (x : Env ℕ) → Confined observer tables (k x) = λ x. (h Apart parts x x any).left in
          let c' : (x : Env ℕ) → Confined observer tables (k' x) = λ x. (h Apart parts x x any).right in
          lift w (conf_declare observer tables name v e k c) (conf_declare observer tables name u d k' c') (λ β l. lock_declare observer tables name k k' (value_in l r) (env_in l q) (λ γ g x y a. (h (Together γ) (le_along l (grows g)) x y (related a)).step));
      call = λ {w = w} {f = f} {this = this} {f' = g} {this' = that} {vs = vs} {us = us} r q a h.
          lift w (conf_call_value observer tables functions (entered_left h) f.label f.value this vs) (conf_call_value observer tables functions (entered_right h) g.label g.value that us)
          (λ β e. lock_call_value observer tables functions (entered_left h) (entered_right h) (entered_step h) (value_in e r) (value_in e q) (rels_in e a));
      construct = λ {w = w} {f = f} {f' = g} {vs = vs} {us = us} r a h.
          lift w (conf_construct_value observer tables functions (entered_left h) set f.label f.value vs) (conf_construct_value observer tables functions (entered_right h) set g.label g.value us)
          (λ β e. lock_construct_value observer tables functions (entered_left h) (entered_right h) (entered_step h) set (value_in e r) (rels_in e a));
      attempt = λ {w = w} handles finishes {m = m} {n = n} {m' = m'} {n' = n'} h h' a b c.
          let ch : (v : Val) → Confined observer tables (h v) = λ v. (b Apart parts v v any).left in
          let ch' : (v : Val) → Confined observer tables (h' v) = λ v. (b Apart parts v v any).right in
          let x = a w (le_itself w) in
          let y = c w (le_itself w) in
          lift w (conf_attempt observer tables handles finishes x.left ch y.left) (conf_attempt observer tables handles finishes x.right ch' y.right)
          (λ β l. lock_attempt observer tables handles finishes x.left x.right ch ch' y.left y.right (λ γ g. (a (Together γ) (le_along l (grows g))).step) (λ γ g v u z. (b (Together γ) (le_along l (grows g)) v u (related z)).step) (λ γ g. (c (Together γ) (le_along l (grows g))).step));
    }
      where
        place_of_env : {w : World} {e d : Env ℕ} → Related EnvsAgree w e d → Related PairedRecords w e.place d.place
        place_of_env (related r) = related r.place
        place_of_env any = any

        this_of_both : {β : Pairing} {n m : Reference} → ReferencesAgree observer β n m → Agree observer β (base_of n) (base_of m)
        this_of_both (in_records p) = undefined_agree observer tables
        this_of_both (on_globals a) = undefined_agree observer tables
        this_of_both (nowheres a) = undefined_agree observer tables
        this_of_both (found_first a b) = undefined_agree observer tables
        this_of_both (found_second a b) = undefined_agree observer tables
        this_of_both (properties a b) = a

        this_in : {w : World} {n m : Reference} → Related (ReferencesAgree observer) w n m → Related (Agree observer) w (base_of n) (base_of m)
        this_in (related r) = related (this_of_both r)
        this_in any = any

        property_in : {w : World} {v u v' u' : Val} → Related (Agree observer) w v v' → Related (Agree observer) w u u' → Related (ReferencesAgree observer) w ((labelled tables first set functions).property v u) ((labelled tables second set functions).property v' u')
        property_in (related r) (related q) = related (properties r (alike_map observer (key_same observer tables) q))
        property_in any any = any

        literal_in : (w : World) (v : Rattle.js_number.specs.declared.primitive.Primitive.Primitive) → Related (Agree observer) w (unlabelled (value.Primitive v)) (unlabelled (value.Primitive v))
        literal_in (Together β) v = related (seen (sees_bottom observer) refl primitives)
        literal_in Apart v = any

    ticks : (w : World) → Lift One w (timed tables first set functions).tick (timed tables second set functions).tick
    ticks w = lift w (conf_tick observer tables) (conf_tick observer tables) (λ β e. lock_tick observer tables β)

    out_of : (t : Ty) (w : World) → Lift t w ((timed tables first set functions).ended t) ((timed tables second set functions).ended t)
    out_of t w = lift w (conf_ends observer tables _) (conf_ends observer tables _) (λ β e. record { steps = λ γ d s u r v. ends_first observer tables (Results t) r (front_refl u.lines) })

    -- where the depth of one is at its end
    first_ended : {t : Ty} (w : World) {n : L (Res Val t)} → Confined observer tables n → Lift t w ((timed tables first set functions).ended t) n
    first_ended {t} w {n} c = lift w (conf_ends observer tables _) c (λ β e. record { steps = λ γ d s u r v. ends_first observer tables (Results t) r (c.adds u) })

    second_ended : {t : Ty} (w : World) {m : L (Res Val t)} → Confined observer tables m → Lift t w m ((timed tables second set functions).ended t)
    second_ended {t} w {m} c = lift w c (conf_ends observer tables _) (λ β e. record { steps = λ γ d s u r v. ends_second observer tables (Results t) r (c.adds s) })

    -- the parts of a script, to one depth
    pub evals : (n : ℕ) → Linked (labelled tables first set functions) (labelled tables second set functions) observed (eval (timed tables first set functions) set n) (eval (timed tables second set functions) set n)
    unfolding observed
    evals n = linked (timed tables first set functions) (timed tables second set functions) observed ticks set out_of n

-- a turn of a `for in` over any value
any_visit : {observer : Label} (v : Visit Val) → Visits (Related (Agree observer) Apart) v v
any_visit v = visits_of any

-- the same input on both sides
same_input : (observer : Label) (tables : Tables) (inputs : Given) → policy.Agree observer tables inputs inputs
same_input observer tables inputs i c at p = refl

module _ (observer : Label) (tables : Tables) (set : BuiltIns) (functions : List FunctionCode) (first second : Given) (agree : policy.Agree observer tables first second) where
  -- what a run does alone
  abbrev alone : (inputs : Given) (n : ℕ) → Linked (labelled tables inputs set functions) (labelled tables inputs set functions) (observed observer tables set functions inputs inputs (same_input observer tables inputs)) (eval (timed tables inputs set functions) set n) (eval (timed tables inputs set functions) set n)
  alone inputs n = evals observer tables set functions inputs inputs (same_input observer tables inputs) n

  -- the parts of a script, to two depths
  linked_at : (n m : ℕ) → Linked (labelled tables first set functions) (labelled tables second set functions) (observed observer tables set functions first second agree) (eval (timed tables first set functions) set n) (eval (timed tables second set functions) set m)
  unfolding eval observed
  linked_at zero m =
      let h = alone second m in
      record {
        expr = λ e w i j p. first_ended observer tables set functions first second agree w (h.expr e Apart j j any).right;
        use_of = λ use_as e w i j p. first_ended observer tables set functions first second agree w (h.use_of use_as e Apart j j any).right;
        named = λ ls s w e d r. first_ended observer tables set functions first second agree w (h.named ls s Apart d d any).right;
        stmt = λ s w e d r. first_ended observer tables set functions first second agree w (h.stmt s Apart d d any).right;
        turn = λ round w e d r. first_ended observer tables set functions first second agree w (h.turn round Apart d d any).right;
        visit = λ w v u rs e d r. first_ended observer tables set functions first second agree w (h.visit Apart u u (any_visit u) d d any).right;
        native = λ steps w vs us rs. first_ended observer tables set functions first second agree w (h.native steps Apart us us (any_list us)).right;
      }
  linked_at (suc n) zero =
      let h = alone first (suc n) in
      record {
        expr = λ e w i j p. second_ended observer tables set functions first second agree w (h.expr e Apart i i any).left;
        use_of = λ use_as e w i j p. second_ended observer tables set functions first second agree w (h.use_of use_as e Apart i i any).left;
        named = λ ls s w e d r. second_ended observer tables set functions first second agree w (h.named ls s Apart e e any).left;
        stmt = λ s w e d r. second_ended observer tables set functions first second agree w (h.stmt s Apart e e any).left;
        turn = λ round w e d r. second_ended observer tables set functions first second agree w (h.turn round Apart e e any).left;
        visit = λ w v u rs e d r. second_ended observer tables set functions first second agree w (h.visit Apart v v (any_visit v) e e any).left;
        native = λ steps w vs us rs. second_ended observer tables set functions first second agree w (h.native steps Apart vs vs (any_list vs)).left;
      }
  linked_at (suc n) (suc m) = ticking_linked (timed tables first set functions) (timed tables second set functions) (observed observer tables set functions first second agree) (ticks observer tables set functions first second agree) set (eval (timed tables first set functions) set n) (eval (timed tables second set functions) set m) (linked_at n m)

  -- two runs of a program
  pub program_observed : (n m : ℕ) (may_declare : Bool) (ss : Statements) (β : Pairing) (e d : Env ℕ) → EnvsAgree β e d → Lockstep observer tables Nothing β (program_step (timed tables first set functions) set n may_declare ss e) (program_step (timed tables second set functions) set m may_declare ss d)
  unfolding observed program_step
  program_observed n m may_declare ss β e d r = (begun_linked (labelled tables first set functions) (labelled tables second set functions) (observed observer tables set functions first second agree) (eval (timed tables first set functions) set n) (eval (timed tables second set functions) set m) (linked_at n m) may_declare ss {w = Together β} {e = e} {d = d} (related r)).step

-- ---- confinement, of parts and of what is pending

pub confinement : IsConfining
unfolding observed
confinement set observer tables inputs functions n =
    let h = alone observer tables set functions inputs inputs (same_input observer tables inputs) inputs n in
    let R = eval (timed tables inputs set functions) set n in
    let K = observed observer tables set functions inputs inputs (same_input observer tables inputs) in
    let A = labelled tables inputs set functions in
    let E = entering A R set in
    let into = entering_linked A A K R R h set in
    let c = entered_left observer tables into in
    record {
      expr = λ e i. (h.expr e Apart i i any).left;
      use_of = λ use_as e i. (h.use_of use_as e Apart i i any).left;
      stmt = λ s e. (h.stmt s Apart e e any).left;
      turn = λ round e. (h.turn round Apart e e any).left;
      visit = λ v e. (h.visit Apart v v (any_visit v) e e any).left;
      jump = λ cause j. conf_jump observer tables cause j;
      discard = λ v. (link.discard_linked A A K {w = Apart} {v = v} {v' = v} any).left;
      give = λ v. (link.give_linked A A K {w = Apart} {v = v} {v' = v} any).left;
      unary_done = λ o v. (link.unary_done_linked A A K o {w = Apart} {v = v} {v' = v} any).left;
      unary_value = λ o v. (link.unary_value_linked A A K E E into o {w = Apart} {v = v} {v' = v} any).left;
      binary_done = λ o v u. (link.binary_done_linked A A K o {w = Apart} {v = v} {u = u} {v' = v} {u' = u} any any).left;
      compared_left = λ o u v. (link.compared_left_linked A A K E E into o {w = Apart} {u = u} {v = v} {u' = u} {v' = v} any any).left;
      primitive_left = λ hint o u v. (link.primitive_left_linked A A K E E into hint o {w = Apart} {u = u} {v = v} {u' = u} {v' = v} any any).left;
      number_left = λ o u v. (link.number_left_linked A A K E E into o {w = Apart} {u = u} {v = v} {u' = u} {v' = v} any any).left;
      has_left = λ u v. (link.has_left_linked A A K {w = Apart} {u = u} {v = v} {u' = u} {v' = v} any any).left;
      has_right = λ v u. (link.has_right_linked A A K E E into {w = Apart} {u = u} {v = v} {u' = u} {v' = v} any any).left;
      binary_values = λ o v u. (link.binary_values_linked A A K E E into o {w = Apart} {v = v} {u = u} {v' = v} {u' = u} any any).left;
      assign_to = λ r v. (link.assign_to_linked A A K E E into {w = Apart} {n = r} {n' = r} {v = v} {v' = v} any any).left;
      assign_giving = λ r a v. (link.assign_giving_linked A A K E E into {w = Apart} {n = r} {n' = r} {a = a} {v = v} {a' = a} {v' = v} any any any).left;
      postfix_by = λ o r v. (link.postfix_by_linked A A K E E into o {w = Apart} {n = r} {n' = r} {v = v} {v' = v} any any).left;
      postfix_number = λ o r v. (link.postfix_number_linked A A K E E into o {w = Apart} {n = r} {n' = r} {v = v} {v' = v} any any).left;
      postfix_value = λ o r v. (link.postfix_value_linked A A K E E into o {w = Apart} {n = r} {n' = r} {v = v} {v' = v} any any).left;
      prefix_by = λ o r v. (link.prefix_by_linked A A K E E into o {w = Apart} {n = r} {n' = r} {v = v} {v' = v} any any).left;
      prefix_number = λ o r v. (link.prefix_number_linked A A K E E into o {w = Apart} {n = r} {n' = r} {v = v} {v' = v} any any).left;
      prefix_value = λ o r v. (link.prefix_value_linked A A K E E into o {w = Apart} {n = r} {n' = r} {v = v} {v' = v} any any).left;
      binary_right = λ o r i v. (link.binary_right_linked A A K E E into R R h o r {w = Apart} {i = i} {j = i} {v = v} {v' = v} any any).left;
      and_right = λ r i v. (link.and_right_linked A A K E E into R R h r {w = Apart} {i = i} {j = i} {v = v} {v' = v} any any).left;
      or_right = λ r i v. (link.or_right_linked A A K E E into R R h r {w = Apart} {i = i} {j = i} {v = v} {v' = v} any any).left;
      choose_expr = λ a b i v. (link.choose_expr_linked A A K E E into R R h a b {w = Apart} {i = i} {j = i} {v = v} {v' = v} any any).left;
      comma_right = λ r i v. (link.comma_right_linked A A K E E into R R h r {w = Apart} {i = i} {j = i} {v = v} {v' = v} any any).left;
      compound_done = λ o r a v. (link.compound_done_linked A A K E E into R R h o {w = Apart} {n = r} {n' = r} {a = a} {v = v} {a' = a} {v' = v} any any any).left;
      compound_right = λ o e i r a. (link.compound_right_linked A A K E E into R R h o e {w = Apart} {i = i} {j = i} {n = r} {n' = r} {a = a} {a' = a} any any any).left;
      used = λ use_as i r. (link.used_linked A A K E E into R R h use_as {w = Apart} {i = i} {j = i} {n = r} {n' = r} any any).left;
      read_value = λ r. (link.read_value_linked A A K E E into R R h {w = Apart} {n = r} {n' = r} any).left;
      with_key = λ use_as i b k. (link.with_key_linked A A K E E into R R h use_as {w = Apart} {i = i} {j = i} {b = b} {k = k} {b' = b} {k' = k} any any any).left;
      with_base = λ use_as i k b. (link.with_base_linked A A K E E into R R h use_as {w = Apart} {i = i} {j = i} {k = k} {b = b} {k' = k} {b' = b} any any any).left;
      index_key = λ use_as i b k. (link.index_key_linked A A K E E into R R h use_as {w = Apart} {i = i} {j = i} {b = b} {k = k} {b' = b} {k' = k} any any any).left;
      index_base = λ use_as e i b. (link.index_base_linked A A K E E into R R h use_as e {w = Apart} {i = i} {j = i} {b = b} {b' = b} any any).left;
      member_base = λ use_as text i b. (link.member_base_linked A A K E E into R R h use_as text {w = Apart} {i = i} {j = i} {b = b} {b' = b} any any).left;
      more_items = λ act vs items i v. (link.more_items_linked A A K E E into R R h act items {w = Apart} {i = i} {j = i} {vs = vs} {us = vs} {v = v} {v' = v} any (any_list vs) any).left;
      more_values = λ act vs ps i v. (link.more_values_linked A A K E E into R R h act ps {w = Apart} {i = i} {j = i} {vs = vs} {us = vs} {v = v} {v' = v} any (any_list vs) any).left;
      more_arguments = λ f vs es i v. (link.more_arguments_linked A A K E E into R R h es {f = f} {g = f} {w = Apart} {i = i} {j = i} {vs = vs} {us = vs} {v = v} {v' = v} (any_calling f) any (any_list vs) any).left;
      more_variables = λ r ds i v. (link.more_variables_linked A A K E E into R R h ds {w = Apart} {i = i} {j = i} {n = r} {n' = r} {v = v} {v' = v} any any any).left;
      turn_test = λ round e v. (link.turn_test_linked A A K E E into R R h round {w = Apart} {e = e} {d = e} {v = v} {v' = v} any any).left;
      updated = λ round e v. (link.updated_linked A A K E E into R R h round {w = Apart} {e = e} {d = e} v v any).left;
      turned_round = λ round e. (link.turned_round_linked A A K E E into R R h round {w = Apart} {e = e} {d = e} any).left;
      looped = λ round e. (link.looped_linked A A K E E into R R h round {w = Apart} {e = e} {d = e} any).left;
      looped_value = λ round e v. (link.looped_value_linked A A K E E into R R h round {w = Apart} {e = e} {d = e} v v any).left;
      visited = λ v e. (link.visited_linked A A K E E into R R h {w = Apart} {v = v} {v' = v} {e = e} {d = e} (any_visit v) any).left;
      visit_body = λ s e v. (link.visit_body_linked A A K E E into R R h s {w = Apart} {e = e} {d = e} v v any).left;
      enumerated = λ labels target s e v. (link.enumerated_linked A A K E E into R R h labels target s {w = Apart} {e = e} {d = e} {o = v} {o' = v} any any).left;
      choose_stmt = λ s e v. (link.choose_stmt_linked A A K E E into R R h s {w = Apart} {e = e} {d = e} {v = v} {v' = v} any any).left;
      choose_stmts = λ s t e v. (link.choose_stmts_linked A A K E E into R R h s t {w = Apart} {e = e} {d = e} {v = v} {v' = v} any any).left;
      statements = λ ss e. (link.statements_linked A A K R R h ss {w = Apart} {e = e} {d = e} any).left;
      named = λ labels s e. (h.named labels s Apart e e any).left;
      call_reference = λ r es i f. (link.call_reference_linked A A K E E into R R h es {w = Apart} {i = i} {j = i} {n = r} {n' = r} {f = f} {f' = f} any any any).left;
      call_value = λ es i f. (link.call_value_linked A A K E E into R R h es {w = Apart} {i = i} {j = i} {f = f} {f' = f} any any).left;
      construct_value = λ es i f. (link.construct_value_linked A A K E E into R R h es {w = Apart} {i = i} {j = i} {f = f} {f' = f} any any).left;
      instance_right = λ r i v. (link.instance_right_linked A A K E E into R R h r {w = Apart} {i = i} {j = i} {v = v} {v' = v} any any).left;
      instance_done = λ v f. (link.instance_done_linked A A K E E into R R h {w = Apart} {v = v} {f = f} {v' = v} {f' = f} any any).left;
      falls = λ cs e. (link.falls_linked A A K E E into R R h cs {w = Apart} {e = e} {d = e} any).left;
      case_compared = λ v ss all cs e u. (link.case_compared_linked A A K E E into R R h ss cs {w = Apart} {e = e} {d = e} {v = v} {u = u} {v' = v} {u' = u} any (λ w l. link.cases_linked A A K E E into R R h all cs {w = w} {e = e} {d = e} {v = v} {v' = v} (K.more_e l any) (K.more_v l any)) any any).left;
      cases = λ v all cs e. (link.cases_linked A A K E E into R R h all cs {w = Apart} {e = e} {d = e} {v = v} {v' = v} any any).left;
      switched = λ labels cs e v. (link.switched_linked A A K E E into R R h labels cs {w = Apart} {e = e} {d = e} {v = v} {v' = v} any any).left;
      jump_with = λ leaving e v. (link.jump_with_linked A A K E E into R R h leaving {w = Apart} {e = e} {d = e} {v = v} {v' = v} any any).left;
      behind_expression = λ upgrade e v. (link.behind_expression_linked A A K E E into R R h upgrade {w = Apart} {e = e} {d = e} any v v).left;
      handled = λ ident b e v. (link.handled_linked A A K E E into R R h ident b {w = Apart} {e = e} {d = e} {v = v} {v' = v} any any).left;
      native = λ steps vs. (h.native steps Apart vs vs (any_list vs)).left;
      answered = λ steps vs v. (requests.answered_linked A A K E E into R R h steps {w = Apart} {vs = vs} {us = vs} v v (any_list vs)).left;
      answered_in = λ steps vs to v. (requests.answered_in_linked A A K E E into R R h steps to {w = Apart} {vs = vs} {us = vs} {v = v} {v' = v} (any_list vs) any).left;
      answered_by = λ steps vs seen. (requests.answered_by_linked A A K E E into R R h steps seen {w = Apart} {vs = vs} {us = vs} (any_list vs)).left;
      got_from = λ steps vs key to b. (requests.got_from_linked A A K E E into R R h steps key to {w = Apart} {vs = vs} {us = vs} {b = b} {b' = b} (any_list vs) any).left;
      had_by = λ steps vs key to b. (requests.had_by_linked A A K E E into R R h steps key to {w = Apart} {vs = vs} {us = vs} {b = b} {b' = b} (any_list vs) any).left;
      put_behind = λ steps vs. (requests.put_behind_linked A A K E E into R R h steps {w = Apart} {vs = vs} {us = vs} (any_list vs)).left;
      put_in = λ steps vs key v b. (requests.put_in_linked A A K E E into R R h steps key {w = Apart} {vs = vs} {us = vs} {v = v} {b = b} {v' = v} {b' = b} (any_list vs) any any).left;
      deleted_from = λ steps vs key to b. (requests.deleted_from_linked A A K E E into R R h steps key to {w = Apart} {vs = vs} {us = vs} {b = b} {b' = b} (any_list vs) any).left;
      own_setter_read = λ steps vs to v. (requests.own_setter_linked A A K E E into R R h steps to {w = Apart} {vs = vs} {us = vs} {v = v} {v' = v} (any_list vs) any).left;
      own_getter_read = λ steps vs b key get put v. (requests.own_getter_linked A A K E E into R R h steps key get put {w = Apart} {vs = vs} {us = vs} {b = b} {v = v} {b' = b} {v' = v} (any_list vs) any any).left;
      own_value_read = λ steps vs b key to get put v. (requests.own_value_linked A A K E E into R R h steps key to get put {w = Apart} {vs = vs} {us = vs} {b = b} {v = v} {b' = b} {v' = v} (any_list vs) any any).left;
      own_marks_read = λ steps vs b key marks to get put v. (requests.own_marks_linked A A K E E into R R h steps key marks to get put {w = Apart} {vs = vs} {us = vs} {b = b} {v = v} {b' = b} {v' = v} (any_list vs) any any).left;
      entered_access = λ a. conf_access observer tables functions c a;
      entered_putting = λ v p. conf_putting observer tables functions c v p;
      entered_defining = λ v d. conf_defining observer tables functions c v d;
      is_instance = λ label o v. conf_is observer tables functions label o v;
    }
  where
    any_calling : (f : Calling Val) → Callings (Related (Agree observer) Apart) f f
    any_calling (calls f this) = both_call any any
    any_calling (constructs f) = both_construct any

-- ---- lockstep, of parts

same_visit : {observer : Label} {β : Pairing} {v u : Visit Val} → VisitsAgree observer β v u → record { labels = v.labels; target = v.target; body = v.body; object = u.object; key = v.key; others = v.others } ≡ u
same_visit {v = v} {u = u} a =
    ap (λ l. record { labels = l; target = v.target; body = v.body; object = u.object; key = v.key; others = v.others }) a.labels
    ∙ ap (λ t. record { labels = u.labels; target = t; body = v.body; object = u.object; key = v.key; others = v.others }) a.target
    ∙ ap (λ b. record { labels = u.labels; target = u.target; body = b; object = u.object; key = v.key; others = v.others }) a.body
    ∙ ap₂ (λ k o. record { labels = u.labels; target = u.target; body = u.body; object = u.object; key = k; others = o }) a.key a.others

visits_related : {observer : Label} {β : Pairing} {v u : Visit Val} → VisitsAgree observer β v u → Visits (Related (Agree observer) (Together β)) v u
visits_related {observer} {β} {v} {u} a = subst (λ x. Visits (Related (Agree observer) (Together β)) v x) (same_visit a) (visits_of {a = v.object} {b = u.object} (related a.object))

pub lockstep : IsLockstep
unfolding observed
lockstep set observer tables first second functions n agree =
    let h = linked_at observer tables set functions first second agree n n in
    let A = labelled tables first set functions in
    let B = labelled tables second set functions in
    let K = observed observer tables set functions first second agree in
    let R = eval (timed tables first set functions) set n in
    let Q = eval (timed tables second set functions) set n in
    let E = entering A R set in
    let D = entering B Q set in
    let into = entering_linked A B K R Q h set in
    record {
      expr = λ e β i j p. (h.expr e (Together β) i j (related p)).step;
      use_of = λ use_as e β i j p. (h.use_of use_as e (Together β) i j (related p)).step;
      stmt = λ s β e d r. (h.stmt s (Together β) e d (related r)).step;
      named = λ labels s β e d r. (h.named labels s (Together β) e d (related r)).step;
      turn = λ round β e d r. (h.turn round (Together β) e d (related r)).step;
      visit = λ v u β rs e d r. (h.visit (Together β) v u (visits_related rs) e d (related r)).step;
      native = λ steps β vs us rs. (h.native steps (Together β) vs us (registers rs)).step;
      answered = λ steps β vs us rs v u. (requests.answered_linked A B K E D into R Q h steps {w = Together β} {vs = vs} {us = us} v u (registers rs)).step;
      answered_in = λ steps to β vs us rs v u r. (requests.answered_in_linked A B K E D into R Q h steps to {w = Together β} {vs = vs} {us = us} {v = v} {v' = u} (registers rs) (related r)).step;
      answered_by = λ steps seen β vs us rs. (requests.answered_by_linked A B K E D into R Q h steps seen {w = Together β} {vs = vs} {us = us} (registers rs)).step;
      got_from = λ steps key to β vs us rs b c q. (requests.got_from_linked A B K E D into R Q h steps key to {w = Together β} {vs = vs} {us = us} {b = b} {b' = c} (registers rs) (related q)).step;
      had_by = λ steps key to β vs us rs b c q. (requests.had_by_linked A B K E D into R Q h steps key to {w = Together β} {vs = vs} {us = us} {b = b} {b' = c} (registers rs) (related q)).step;
      put_behind = λ steps β vs us rs. (requests.put_behind_linked A B K E D into R Q h steps {w = Together β} {vs = vs} {us = us} (registers rs)).step;
      put_in = λ steps key β vs us rs v u b c r q. (requests.put_in_linked A B K E D into R Q h steps key {w = Together β} {vs = vs} {us = us} {v = v} {b = b} {v' = u} {b' = c} (registers rs) (related r) (related q)).step;
      deleted_from = λ steps key to β vs us rs b c q. (requests.deleted_from_linked A B K E D into R Q h steps key to {w = Together β} {vs = vs} {us = us} {b = b} {b' = c} (registers rs) (related q)).step;
      own_setter_read = λ steps to β vs us rs v u r. (requests.own_setter_linked A B K E D into R Q h steps to {w = Together β} {vs = vs} {us = us} {v = v} {v' = u} (registers rs) (related r)).step;
      own_getter_read = λ steps key get put β vs us rs b c v u q r. (requests.own_getter_linked A B K E D into R Q h steps key get put {w = Together β} {vs = vs} {us = us} {b = b} {v = v} {b' = c} {v' = u} (registers rs) (related q) (related r)).step;
      own_value_read = λ steps key to get put β vs us rs b c v u q r. (requests.own_value_linked A B K E D into R Q h steps key to get put {w = Together β} {vs = vs} {us = us} {b = b} {v = v} {b' = c} {v' = u} (registers rs) (related q) (related r)).step;
      own_marks_read = λ steps key marks to get put β vs us rs b c v u q r. (requests.own_marks_linked A B K E D into R Q h steps key marks to get put {w = Together β} {vs = vs} {us = us} {b = b} {v = v} {b' = c} {v' = u} (registers rs) (related q) (related r)).step;
    }
  where
    registers : {β : Pairing} {vs us : List Val} → AllAgree observer β vs us → Rels (Related (Agree observer) (Together β)) vs us
    registers rs = together (rels_of observer rs)
