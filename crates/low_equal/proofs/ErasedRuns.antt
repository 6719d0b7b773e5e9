-- Erasure: the operations with labels and those without are linked, and so are the runs of a script.
use Rattle.std.proofs.Common.{◌≡◌, ℕ, suc, ◌≤◌, Bool, true, false, nat_eq, List, [], ◌∷◌, length, ◌++◌, ◌&&◌, cond, Option, Some, None, refl, sym, ◌∙◌, ap, ap₂, subst, eqb-true, eq-eqb, arith}
use Rattle.std.specs.List.{list_any}
use Rattle.std.specs.Option.{option_map}
use Rattle.origin_labels.specs.Label.{bottom, label_of}
use Rattle.flow_policy.specs.Policies.{Tables}
use Rattle.flow_policy.specs.Inputs.{Given}
use Rattle.flow_frames.specs.Kinds.{is_try}
use Rattle.js_values.specs.declared.value.Value.{Value}
use Rattle.js_values.specs.Objects.{PlainObject}
use Rattle.js_values.specs.Records.{Record}
use Rattle.js_ast.specs.Trees.{Statements}
use Rattle.js_ast.specs.Functions.{FunctionCode, functions_of}
use Rattle.es_meaning.specs.Outcomes as es
use Rattle.es_meaning.specs.BuiltIns.{BuiltIns}
use Rattle.es_meaning.specs.Outcomes.{Exit, throws, returns, leaves, left, out_of_turns, Outcome, Goes, Jumps, Ends, ret, ◌>>=◌}
use Rattle.es_meaning.specs.Environments.{Around, Env, with_around, with_place, called_env, Leaving, thrown, returned, left_by, same_mark, is_label, find_around, aimed}
use Rattle.es_meaning.specs.Functions.{env_id, binds}
use Rattle.es_meaning.specs.Operations.{Ty, One, Res, Ops}
use Rattle.es_meaning.specs.Operations.{Value as a_value}
use Rattle.native_protocol.specs.declared.request.Seen.{Seen}
use Rattle.es_meaning.specs.Operators.{truth, binary_of}
use Rattle.es_meaning.specs.Evaluation.{program_step}
use Rattle.es_meaning.specs.Plain as plain
use Rattle.es_meaning.specs.Plain.{State, P, ended_round, may_declare, outermost_env, plain_run}
use Rattle.es_meaning.proofs.Link.{Rel, Rels, nils, conses, EnteringLinked, Link}
use Rattle.es_meaning.proofs.RequestLinks.{program_linked}
use Rattle.flow_meaning.specs.Erased.{erased_heap, erased_records, unlabelled}
use Rattle.flow_meaning.specs.Scopes as scopes
use Rattle.flow_meaning.specs.Scopes.{Val, Halt, L, raise, jump, round_kind}
use Rattle.flow_meaning.specs.Tracked as tracked
use Rattle.flow_meaning.specs.Tracked.{tracked_run}
use Rattle.low_equal.specs.Erasure.{Erases, goes_on, IsErasing}
use Rattle.low_equal.specs.Erasure as erasure
use Rattle.low_equal.proofs.Erased.{erased_result, erased, lines_behind, jumps_extends, ends_extends, Mark, passes, calls, rounds, tries, aim, aim_throws, Shaped, cond_true, cond_false, by_test, Yields, goes, jumps, ends, stops, LiftBy, Lift, ret_lifts, bind_lifts, jump_yields, raise_lifts, fork_lifts, round_lifts, again_lifts}
use Rattle.low_equal.proofs.ErasedHeaps.{first_heap_erased, values_of}
use Rattle.low_equal.proofs.ErasedActs.{erased_reference, resolved_erased, seen_erased, given_lifts, unary_lifts, remove_lifts, spend_lifts, ends_lifts, keys_lifts}
use Rattle.low_equal.proofs.ErasedRequests.{values_are, act_lifts}
use Rattle.low_equal.proofs.ErasedCalls.{attempt_lifts, jumps_lifts, no_jump_lifts, raises_lifts, records_length, records_appended, function_lifts}
use Rattle.low_equal.proofs.ErasedEntering.{Enters, value_lifts, construct_lifts, get_lifts, typeof_get_lifts, put_lifts, define_lifts, primitive_lifts, comparable_lifts, instance_lifts}

-- a value, and what is left of it without its label
abbrev Same : List Mark → Val → Value → Type 0
Same w v r = v.value ≡ r

-- each result is related to what is left of it
same_result : (t : Ty) (w : List Mark) (a : Res Val t) → Rel Same t w a (erased_result t a)
same_result One w a = tt
same_result a_value w a = refl

-- each unlabelled reference is that of a labelled one
labelled_reference : plain.Reference → tracked.Reference
labelled_reference (plain.of_name name place) = tracked.of_name name place bottom
labelled_reference (plain.of_property v key) = tracked.of_property (unlabelled v) key bottom

-- without its labels, that labelled reference is the unlabelled one
labelled_reference_is : (n : plain.Reference) → erased_reference (labelled_reference n) ≡ n
unfolding labelled_reference
labelled_reference_is (plain.of_name name place) = refl
labelled_reference_is (plain.of_property v key) = refl

-- the unlabelled computation of equal values
at_equal : {A X Y : Type 0} {erase : X → Y} {w : List Mark} {m : L X} {a b : A} (n : A → P Y) → a ≡ b → LiftBy erase w m (n a) → LiftBy erase w m (n b)
at_equal {erase = erase} {w = w} {m = m} n e l = subst (λ x. LiftBy erase w m (n x)) e l

-- ---- environments: each handle is the depth of the frame at which its jumps stop

-- what is round a statement, where the last of it has the number 0
data Handles (w : List Mark) : List (Around ℕ) → List (Around (Unit {0})) → Type 0 where
  no_handles : Handles w [] []
  a_handle : {labels : List (Option (List ℕ))} {turn : Bool} {to : ℕ} {os : List (Around ℕ)} {us : List (Around (Unit {0}))} → to ≡ aim (leaves (length os)) w → Handles w os us
      → Handles w (record { labels = labels; turn = turn; to = to } ∷ os) (record { labels = labels; turn = turn; to = tt } ∷ us)

record Reaches (w : List Mark) (e : Env ℕ) (d : Env (Unit {0})) : Type 0 where
  place : e.place ≡ d.place
  call : e.call ≡ aim returns w
  around : Handles w e.around d.around

-- jumps aim where they did
abbrev SameAims : List Mark → List Mark → Type 0
SameAims w w' = (j : Exit) → aim j w' ≡ aim j w

-- handles stay right
handles_more : {w w' : List Mark} {os : List (Around ℕ)} {us : List (Around (Unit {0}))} → SameAims w w' → Handles w os us → Handles w' os us
handles_more p no_handles = no_handles
handles_more p (a_handle {os = os} e r) = a_handle (e ∙ sym (p (leaves (length os)))) (handles_more p r)

-- and environments
reaches_more : {w w' : List Mark} {e : Env ℕ} {d : Env (Unit {0})} → SameAims w w' → Reaches w e d → Reaches w' e d
reaches_more p r = record { place = r.place; call = r.call ∙ sym (p returns); around = handles_more p r.around }

-- as many are round both
length_handles : {w : List Mark} {os : List (Around ℕ)} {us : List (Around (Unit {0}))} → Handles w os us → length os ≡ length us
length_handles no_handles = refl
length_handles (a_handle e r) = ap suc (length_handles r)

-- numbers that differ
not_equal : (m n : ℕ) → (m ≡ n → ⊥) → nat_eq m n ≡ false
not_equal m n h = by_test (nat_eq m n) (λ e. absurd (h (eqb-true m n e))) (λ e. e)

-- one more mark, whose number none has
handles_inside : {w : List Mark} {os : List (Around ℕ)} {us : List (Around (Unit {0}))} (n : ℕ) → length os ≤ n → Handles w os us → Handles (rounds n ∷ w) os us
handles_inside n le no_handles = no_handles
handles_inside {w} n le (a_handle {os = os} e r) =
    a_handle (e ∙ sym (cond_false (nat_eq (length os) n) (suc (length w)) (aim (leaves (length os)) w) (not_equal (length os) n (λ q. absurd (omega arith))))) (handles_inside n (omega arith) r)

-- a loop or a turn, whose frame is the innermost
reaches_inside : {w : List Mark} (turn : Bool) (labels : List (Option (List ℕ))) {e : Env ℕ} {d : Env (Unit {0})} → Reaches w e d
    → Reaches (rounds (length e.around) ∷ w) (with_around turn labels (suc (length w)) e) (with_around turn labels tt d)
reaches_inside {w} turn labels {e} {d} r = let n = length e.around in record {
  place = r.place;
  call = r.call;
  around = a_handle (sym (cond_true (nat_eq n n) (suc (length w)) (aim (leaves n) w) (eq-eqb n n refl))) (handles_inside n (omega arith) r.around);
}

-- ---- the link

-- frames of loops and turns catch nothing
no_try : (turn : Bool) → is_try (round_kind turn) ≡ false
no_try true = refl
no_try false = refl

-- ---- jumps aim where their handles say

data Aims (w : List Mark) : Option (Exit × ℕ) → Option (Exit × Unit {0}) → Type 0 where
  aims_nowhere : Aims w None None
  aims_at : {exit : Exit} {to : ℕ} → to ≡ aim exit w → Aims w (Some (exit, to)) (Some (exit, tt))

-- what a `break` or a `continue` ends, as an aim
abbrev as_leaving : {H : Type 0} → Option (ℕ × H) → Option (Exit × H)
as_leaving o = option_map (λ f. (leaves f.0, f.1)) o

around_aims : (turn : Bool) (label : Option (List ℕ)) {w : List Mark} {os : List (Around ℕ)} {us : List (Around (Unit {0}))} → Handles w os us → Aims w (as_leaving (find_around turn label os)) (as_leaving (find_around turn label us))
around_aims turn label no_handles = aims_nowhere
around_aims turn label {w} (a_handle {labels = labels} {turn = mark} {to = to} {os = os} {us = us} e r) =
    by_case (same_mark turn mark && list_any (λ l. is_label label l) labels) (around_aims turn label r) (length_handles r)
  where
    by_case : (b : Bool) → Aims w (as_leaving (find_around turn label os)) (as_leaving (find_around turn label us)) → length os ≡ length us
        → Aims w (as_leaving (cond b (Some (length os, to)) (find_around turn label os))) (as_leaving (cond b (Some (length us, tt)) (find_around turn label us)))
    by_case true h q = subst (λ n. Aims w (Some (leaves (length os), to)) (Some (leaves n, tt))) q (aims_at e)
    by_case false h q = h

all_aims : (leaving : Leaving) {w : List Mark} {e : Env ℕ} {d : Env (Unit {0})} → Reaches w e d → Aims w (aimed 0 leaving e) (aimed tt leaving d)
all_aims thrown {w} r = aims_at (sym (aim_throws w))
all_aims returned r = aims_at r.call
all_aims (left_by turn label) r = around_aims turn label r.around

aims_lift : {w : List Mark} {to : Option (Exit × ℕ)} {there : Option (Exit × Unit {0})} (v : Val) → Aims w to there → Lift One w (tracked.jumps_to to v) (plain.jumps_to there v.value)
aims_lift v aims_nowhere = no_jump_lifts v
aims_lift v (aims_at {exit = exit} {to = to} e) = jumps_lifts exit to v e

-- ---- what is entered, looks and throws

-- the values of a list
rels_of : (vs : List Val) → Rels (λ (v : Val) (r : Value). v.value ≡ r) vs (values_of vs)
rels_of [] = nils
rels_of (v ∷ vs) = conses refl (rels_of vs)

-- a body is entered in the record and the frame of a call
enters_of : {E : tracked.Enters} {D : plain.Enters} → EnteringLinked (List Mark) Same Reaches Lift E D → Enters E D
enters_of h = record {
  body = λ w ss i. h.body (calls ∷ w) ss (called_env i (suc (length w))) (called_env i tt) (record { place = refl; call = refl; around = no_handles });
  built_in = λ w which construct vs. h.built_in w which construct vs (values_of vs) (rels_of vs);
  conversion = λ w wanted v. h.conversion w wanted v v.value refl;
}

-- a look raises the innermost frame, which is nothing without labels
look_lifts : {w : List Mark} (v : Val) (f : Seen → L Val) (g : Seen → P Value) → ((seen : Seen) → Lift a_value w (f seen) (g seen))
    → Lift a_value w (raise v.label >>= λ u s. f (tracked.seen s.heap v.value) s) (λ s. g (plain.seen s.heap v.value) s)
look_lifts {w} v f g h =
    let l = bind_lifts One a_value w (λ u s. f (tracked.seen s.heap v.value) s) (λ u s. g (plain.seen s.heap v.value) s) (raise_lifts v.label) (λ u. record {
      yields = λ s r. subst (λ x. Yields a_value w (f (tracked.seen s.heap v.value) s) (g x (erased s))) (sym (seen_erased s.heap v.value)) ((h (tracked.seen s.heap v.value)).yields s r);
      extends = λ s. (h (plain.seen s.heap v.value)).extends s;
    }) in
    record { yields = l.yields; extends = l.extends }

throw_lifts : {w : List Mark} (v : Val) → Lift a_value w (jump bottom (record { exit = throws; to = 0; value = v })) (λ s. Jumps (record { exit = throws; value = v.value }) s)
throw_lifts {w} v = record { yields = λ s r. jump_yields bottom (record { exit = throws; to = 0; value = v }) s (sym (aim_throws w)) r; extends = λ s. jumps_extends _ s }

module _ (tables : Tables) (inputs : Given) (set : BuiltIns) (functions : List FunctionCode) where
  -- both meanings
  abbrev A : Ops
  A = tracked.labelled tables inputs set functions

  abbrev B : Ops
  B = plain.plain tables inputs set functions

  -- a name is resolved
  resolve_lifts : (t : Ty) {w : List Mark} (i : ℕ) (x : List ℕ) (f : tracked.Reference → L (Res Val t)) (g : plain.Reference → P (Res Value t)) → ((n : tracked.Reference) (m : plain.Reference) → erased_reference n ≡ m → Lift t w (f n) (g m))
      → Lift t w (A.resolve t i x f) (B.resolve t i x g)
  resolve_lifts t i x f g h = record {
    yields = λ s r. (h (tracked.resolved s.records s.heap i x) (plain.resolved (erased_records s.records) (erased_heap s.heap) i x) (sym (resolved_erased s.records s.heap i x))).yields s r;
    extends = λ s. let n = plain.resolved s.records s.heap i x in (h (labelled_reference n) n (labelled_reference_is n)).extends s;
  }

  -- a loop or a turn
  round_link : {w : List Mark} (turn : Bool) (labels : List (Option (List ℕ))) {e : Env ℕ} {d : Env (Unit {0})} (f : Env ℕ → L (Unit {0})) (g : Env (Unit {0}) → P (Unit {0})) → Reaches w e d
      → ((w' : List Mark) (e' : Env ℕ) (d' : Env (Unit {0})) → Reaches w' e' d' → Lift One w' (f e') (g d')) → Lift One w (A.round turn labels e f) (B.round turn labels d g)
  round_link {w} turn labels {e} {d} f g r h =
      at_equal (λ n s. ended_round n (g (with_around turn labels tt d) s)) (length_handles r.around)
      (round_lifts (length e.around) (round_kind turn) (no_try turn) (λ depth. f (with_around turn labels depth e)) (g (with_around turn labels tt d)) (h _ _ _ (reaches_inside turn labels r)))

  -- a directive
  raised_lifts : {w : List Mark} (leaving : Leaving) (to : Option (Exit × ℕ)) (origins : Option (List ℕ)) → Lift One w (tracked.raised_by tables inputs leaving to origins) (plain.raised_by tables inputs origins)
  unfolding tracked.raised_by plain.raised_by
  raised_lifts leaving to None = record { yields = λ s r. ends; extends = λ s. ends_extends _ s }
  raised_lifts leaving to (Some origins) = let l = raises_lifts leaving to (label_of origins) in record { yields = l.yields; extends = l.extends }

  -- the base of a reference
  base_is : (n : tracked.Reference) → (tracked.base_of n).value ≡ plain.base_of (erased_reference n)
  base_is (tracked.of_name name place walk) = refl
  base_is (tracked.of_property v key label) = refl

  -- a name in a record of its own
  declare_lifts : {w : List Mark} (name : List ℕ) (v : Val) {e : Env ℕ} {d : Env (Unit {0})} (f : Env ℕ → L (Unit {0})) (g : Env (Unit {0}) → P (Unit {0})) → Reaches w e d
      → ((e' : Env ℕ) (d' : Env (Unit {0})) → Reaches w e' d' → Lift One w (f e') (g d')) → Lift One w (A.declare name v e f) (B.declare name v.value d g)
  declare_lifts {w} name v {e} {d} f g r h = record {
    yields = λ s q.
        let here = length s.records in
        let l = h (with_place here e) (with_place here d) (record { place = refl; call = r.call; around = r.around }) in
        subst (λ n. Yields One w (f (with_place here e) (tracked.with_name e.place name v s)) (g (with_place n d) (plain_name n d.place (erased s)))) (sym (records_length s.records))
        (subst (λ place. Yields One w (f (with_place here e) (tracked.with_name e.place name v s)) (g (with_place here d) (plain_name here place (erased s)))) r.place
        (subst (λ (rs : List (Record Value)). Yields One w (f (with_place here e) (tracked.with_name e.place name v s)) (g (with_place here d) (record (erased s) { records = rs }))) (records_appended s.records _)
        (l.yields (tracked.with_name e.place name v s) q)));
    extends = λ s. (h (with_place (length s.records) e) (with_place (length s.records) d) (record { place = refl; call = r.call; around = r.around })).extends (plain_name 0 d.place s);
  }
    where
      plain_name : ℕ → ℕ → State → State
      plain_name n place s = record s { records = s.records ++ record { outer = Some (env_id place); bindings = binds true name v.value } ∷ [] }

  -- the operations with labels and those without
  pub erasing : Link (tracked.labelled tables inputs set functions) (plain.plain tables inputs set functions)
  erasing = record {
    W = List Mark;
    Le = SameAims;
    RV = Same;
    RN = λ w n m. erased_reference n ≡ m;
    RP = λ w i j. i ≡ j;
    RE = Reaches;
    Lift = Lift;
    Inside = λ v w. Unit {0};
    inside_v = λ l r. r;
    le_refl = λ w j. refl;
    le_trans = λ p q j. q j ∙ p j;
    more_v = λ l r. r;
    more_n = λ l r. r;
    more_p = λ l r. r;
    more_e = reaches_more;
    place_of = λ r. r.place;
    ret_one = λ w. ret_lifts One w tt tt refl;
    ret_value = λ {w} {a} {b} r. ret_lifts a_value w a b r;
    bind = λ t u {w} f g l h. bind_lifts t u w f g l (λ a. h w (λ j. refl) a (erased_result t a) (same_result t w a));
    literal = λ w v. refl;
    unary = λ o {v} r. at_equal (B.unary o) r (unary_lifts o v);
    binary = λ o {v} {u} {v'} {u'} r q. at_equal (λ x. B.binary o x u') r (at_equal (λ x. B.binary o v.value x) q (given_lifts _ (binary_of o v.value u.value)));
    primitive = λ kind {v = v} {E = E} {D = D} r h. at_equal (λ x. B.primitive kind x D) r (primitive_lifts functions E D (enters_of h) kind v);
    comparable = λ {v = v} {u = u} {u' = u'} {E = E} {D = D} r q h. at_equal (λ x. B.comparable x u' D) r (at_equal (λ x. B.comparable v.value x D) q (comparable_lifts functions E D (enters_of h) v u));
    act = λ f {vs} rs. at_equal (B.act f) (values_are rs) (act_lifts tables inputs f vs);
    look = λ {w = w} {v = v} f g r h. at_equal (λ x. B.look x g) r (look_lifts v f g (h w (λ j. refl)));
    function = λ f {i = i} p. at_equal (B.function f) p (function_lifts functions f i);
    jump = λ leaving {d = d} {v = v} r q. at_equal (λ x. B.jump leaving d x) q (aims_lift v (all_aims leaving r));
    raise = λ leaving {e = e} names r. raised_lifts leaving (aimed 0 leaving e) (tracked.named_origins tables inputs names);
    throw = λ {v = v} r. at_equal B.throw r (throw_lifts v);
    leave = λ t w name. ends_lifts (left name);
    resolve = λ t {w} {i} x f g p h. at_equal (λ j. B.resolve t j x g) p (resolve_lifts t i x f g (h w (λ j. refl)));
    get_value = λ {n = n} {E = E} {D = D} r h. at_equal (λ m. B.get_value m D) r (get_lifts functions E D (enters_of h) n);
    typeof_value = λ {n = n} {E = E} {D = D} r h. at_equal (λ m. B.typeof_value m D) r (typeof_get_lifts functions E D (enters_of h) n);
    put_value = λ {n = n} {v = v} {v' = v'} {E = E} {D = D} r q h. at_equal (λ m. B.put_value m v' D) r (at_equal (λ x. B.put_value (erased_reference n) x D) q (put_lifts functions E D (enters_of h) n v));
    property = λ {v = v} r q. ap₂ (λ x y. B.property x y) r q;
    remove = λ {n = n} r. at_equal B.remove r (remove_lifts n);
    this_of = λ {n = n} r. base_is n ∙ ap B.this_of r;
    instance = λ {v = v} {f = f} {f' = f'} {E = E} {D = D} r q h. at_equal (λ x. B.instance x f' D) r (at_equal (λ x. B.instance v.value x D) q (instance_lifts functions E D (enters_of h) f.value v f.label));
    define = λ key marks shape {base = b} {v = v} {g = g} {set = q} {v' = v'} {g' = g'} {set' = q'} {E = E} {D = D} rb rv rg rq h. at_equal (λ x. B.define key marks shape x v' g' q' D) rb (at_equal (λ x. B.define key marks shape b.value x g' q' D) rv
        (at_equal (λ x. B.define key marks shape b.value v.value x q' D) rg (at_equal (λ x. B.define key marks shape b.value v.value g.value x D) rq (define_lifts functions E D (enters_of h) key marks shape b v g q))));
    fork = λ t {w = w} {v = v} {m' = m'} {n' = n'} r h k. at_equal (λ x. B.fork t x m' n') r (fork_lifts t v (truth v.value) (h (passes ∷ w) (λ j. refl)) (k (passes ∷ w) (λ j. refl)));
    round = λ turn labels f g r h. round_link turn labels f g r (λ w. h w tt);
    again = λ {v = v} {m' = m'} {n' = n'} r h k. at_equal (λ x. B.again x m' n') r (again_lifts v (truth v.value) h k);
    keys = λ {w = w} {v = v} f g r h. at_equal (λ x. B.keys x g) r (keys_lifts v f g (h w (λ j. refl)));
    declare = λ {w = w} name {v = v} {d = d} f g r q h. at_equal (λ x. B.declare name x d g) r (declare_lifts name v f g q (h w (λ j. refl)));
    call = λ {f = f} {this = b} {f' = f'} {this' = b'} {vs = vs} {us = us} {E = E} {D = D} r q rs h.
        at_equal (λ x. B.call x b' us D) r (at_equal (λ x. B.call f.value x us D) q (at_equal (λ xs. B.call f.value b.value xs D) (values_are rs) (value_lifts functions E D (enters_of h) f.value f.label b vs)));
    construct = λ {f = f} {vs = vs} {us = us} {E = E} {D = D} r rs h.
        at_equal (λ x. B.construct x us D) r (at_equal (λ xs. B.construct f.value xs D) (values_are rs) (construct_lifts functions E D (enters_of h) set f.value f.label vs));
    attempt = λ {w = w} handles finishes f g l h q. attempt_lifts handles finishes f g (l (tries true ∷ w) (λ j. refl)) (λ b v. h (tries b ∷ w) (λ j. refl) v v.value refl) (q (tries false ∷ w) (λ j. refl));
  }

  -- a script's runs
  program_lifts : (n : ℕ) (may : Bool) (program : Statements) → Lift One [] (program_step (tracked.timed tables inputs set functions) set n may program (outermost_env 0)) (program_step (plain.timed tables inputs set functions) set n may program (outermost_env tt))
  unfolding erasing
  program_lifts n may program = program_linked (tracked.timed tables inputs set functions) (plain.timed tables inputs set functions) erasing spend_lifts set (λ t w. ends_lifts out_of_turns) n may program (record { place = refl; call = refl; around = no_handles })

-- ---- the start

-- a run with labels starts as one without
start_erased : (set : BuiltIns) (tables : Tables) (inputs : Given) (program : Statements) (turns : ℕ) → erased (tracked.start tables inputs set program turns) ≡ plain.start tables inputs set program turns
start_erased set tables inputs program turns = ap (λ (heap : List PlainObject). record (plain.start tables inputs set program turns) { heap = heap }) (first_heap_erased set program)

-- in the Root
start_shaped : (set : BuiltIns) (tables : Tables) (inputs : Given) (program : Statements) (turns : ℕ) → Shaped [] (tracked.start tables inputs set program turns).frames
start_shaped set tables inputs program turns = record { shape = refl }

-- ---- runs

-- the lines of a run are those behind its outcome
run_lines : (o : Outcome es.Halt plain.Jump (Unit {0}) State) → (plain.run_of o).lines ≡ lines_behind o
run_lines (Goes a s) = refl
run_lines (Jumps j s) = refl
run_lines (Ends halt s) = refl

-- outcomes, as runs
run_erased : {o : Outcome Halt scopes.Jump (Unit {0}) scopes.State} {p : Outcome es.Halt plain.Jump (Unit {0}) State} → Yields One [] o p → Erases (tracked.run_of o) (plain.run_of p)
run_erased (goes r) = goes_on refl refl
run_erased (jumps r e) = goes_on refl refl
run_erased ends = goes_on refl refl
run_erased (stops {rule = rule} {need = need} {have = have} {p = p} broken x) = erasure.stops rule need have x.rest refl broken (run_lines p ∙ x.lines_are)

-- erasure
pub is_erasing : IsErasing
unfolding tracked_run plain_run
is_erasing set tables inputs program turns =
    let run = program_step (tracked.timed tables inputs set (functions_of program)) set turns (may_declare set program) program (outermost_env 0) (tracked.start tables inputs set program turns) in
    run_erased (subst (λ u. Yields One [] run (program_step (plain.timed tables inputs set (functions_of program)) set turns (may_declare set program) program (outermost_env tt) u))
    (start_erased set tables inputs program turns) ((program_lifts tables inputs set (functions_of program) turns (may_declare set program) program).yields (tracked.start tables inputs set program turns) (start_shaped set tables inputs program turns)))
