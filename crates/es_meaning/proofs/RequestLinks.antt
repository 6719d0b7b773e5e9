-- What a built-in asks for, in linked records of operations: what is done behind a part of a request has a lemma of its own. With these the evaluators
-- are linked.
use Rattle.std.proofs.Common.{ℕ, zero, suc, Bool, true, false, List, [], ◌∷◌, Option, Some, None, ◌≤◌, arith}
use Rattle.js_number.specs.declared.primitive.Primitive.TheVariants.{Undefined, Str}
use Rattle.js_ast.specs.declared.operators.BinaryOperator.TheVariants as binary_operator
use Rattle.js_ast.specs.Trees.{Statements}
use Rattle.js_values.specs.declared.inner.Class.{Class}
use Rattle.native_protocol.specs.declared.registers.Reg.{Reg}
use Rattle.native_protocol.specs.declared.request.Answer.TheVariants as answer
use Rattle.native_protocol.specs.declared.request.ErrorKind.TheVariants as error
use Rattle.native_protocol.specs.declared.request.Request.{Request}
use Rattle.native_protocol.specs.declared.request.Request.TheVariants.{Look, Make, Copy, Same, Get, Has, Put, Delete, Own, Define, Keys, Proto, Extensible, Prevent, New, Call, Construct, Bind, ReadLine, PrintLine, Label, RaiseStructure, RaiseExistence, Return, Throw, ThrowNew, Leave}
use Rattle.native_protocol.specs.declared.request.Seen.{Seen}
use Rattle.native_protocol.specs.Steps.{Steps}
use Rattle.es_meaning.specs.Environments.{Env}
use Rattle.es_meaning.specs.BuiltIns.{BuiltIns, steps_behind}
use Rattle.es_meaning.specs.Operations.{Ty, One, Value, Act, has_key, base_needed, throws_error, own_property, own_marks, own_value, own_getter, own_setter, own_keys, prototype_of_object, is_extensible, prevent_extensions, new_object, bind, read_line, print_line, join_label, raise_structure, raise_existence, Entering, Ops, Rec}
use Rattle.es_meaning.specs.Evaluation.{element_or, with_element, in_register, in_registers, in_register_if, with_register, answered, answered_in, answered_by, got_from, had_by, put_behind, put_in, deleted_from, with_base_needed, own_setter_read, own_getter_read, own_value_read, own_marks_read, shape_of, made_by, request_step, native_step, parts, step, begun, Timed, ticking, eval, program_step}
use Rattle.es_meaning.proofs.Link.{Rels, nils, conses, EnteringLinked, Link, Linked, more_rels, more_visits, discard_linked, statements_linked, entering_linked, expr_linked, use_linked, stmt_linked, named_linked, turn_linked, visit_linked}

module _ (A B : Ops) (K : Link A B) where
  -- ---- values in registers

  element_linked : {w : K.W} {a : A.V} {b : B.V} (n : ℕ) {vs : List A.V} {us : List B.V} → K.RV w a b → Rels (K.RV w) vs us → K.RV w (element_or a n vs) (element_or b n us)
  unfolding element_or
  element_linked n r nils = r
  element_linked zero r (conses q rs) = q
  element_linked (suc n) r (conses q rs) = element_linked n r rs

  with_element_linked : {w : K.W} {a v : A.V} {b u : B.V} (n : ℕ) {vs : List A.V} {us : List B.V} → K.RV w a b → K.RV w v u → Rels (K.RV w) vs us
      → Rels (K.RV w) (with_element a n v vs) (with_element b n u us)
  unfolding with_element
  with_element_linked zero r rv nils = conses rv nils
  with_element_linked zero r rv (conses q rs) = conses rv rs
  with_element_linked (suc n) r rv nils = conses r (with_element_linked n r rv nils)
  with_element_linked (suc n) r rv (conses q rs) = conses q (with_element_linked n r rv rs)

  module _ (E : Entering A.V A.H A.M) (D : Entering B.V B.H B.M) (enters : EnteringLinked K.W K.RV K.RE K.Lift E D) (R : Rec A) (Q : Rec B) (h : Linked A B K R Q) where
    register_linked : (r : Reg) {w : K.W} {vs : List A.V} {us : List B.V} → Rels (K.RV w) vs us → K.RV w (in_register A E R vs r) (in_register B D Q us r)
    register_linked r {w = w} rs = element_linked r.0 (K.literal w Undefined) rs

    registers_linked : (regs : List Reg) {w : K.W} {vs : List A.V} {us : List B.V} → Rels (K.RV w) vs us → Rels (K.RV w) (in_registers A E R vs regs) (in_registers B D Q us regs)
    registers_linked [] rs = nils
    registers_linked (r ∷ regs) rs = conses (register_linked r rs) (registers_linked regs rs)

    register_if_linked : (r : Option Reg) {w : K.W} {vs : List A.V} {us : List B.V} → Rels (K.RV w) vs us → K.RV w (in_register_if A E R vs r) (in_register_if B D Q us r)
    register_if_linked None {w = w} rs = K.literal w Undefined
    register_if_linked (Some r) rs = register_linked r rs

    with_register_linked : (to : Reg) {w : K.W} {v : A.V} {u : B.V} {vs : List A.V} {us : List B.V} → K.RV w v u → Rels (K.RV w) vs us
        → Rels (K.RV w) (with_register A E R to v vs) (with_register B D Q to u us)
    with_register_linked to {w = w} rv rs = with_element_linked to.0 (K.literal w Undefined) rv rs

    -- ---- behind a request, or a part of one

    pub answered_linked : (steps : Steps) {w : K.W} {vs : List A.V} {us : List B.V} (v : A.V) (v' : B.V) → Rels (K.RV w) vs us → K.Lift Value w (answered A E R steps vs v) (answered B D Q steps us v')
    unfolding answered
    answered_linked steps v v' rs = h.native (steps_behind steps answer.Done) _ _ _ rs

    pub answered_in_linked : (steps : Steps) (to : Reg) {w : K.W} {vs : List A.V} {us : List B.V} {v : A.V} {v' : B.V} → Rels (K.RV w) vs us → K.RV w v v'
        → K.Lift Value w (answered_in A E R steps vs to v) (answered_in B D Q steps us to v')
    unfolding answered_in
    answered_in_linked steps to rs rv = h.native (steps_behind steps answer.Done) _ _ _ (with_register_linked to rv rs)

    pub answered_by_linked : (steps : Steps) (seen : Seen) {w : K.W} {vs : List A.V} {us : List B.V} → Rels (K.RV w) vs us → K.Lift Value w (answered_by A E R steps vs seen) (answered_by B D Q steps us seen)
    unfolding answered_by
    answered_by_linked steps seen rs = h.native (steps_behind steps (answer.Seen seen)) _ _ _ rs

    pub got_from_linked : (steps : Steps) (key : List ℕ) (to : Reg) {w : K.W} {vs : List A.V} {us : List B.V} {b : A.V} {b' : B.V} → Rels (K.RV w) vs us → K.RV w b b'
        → K.Lift Value w (got_from A E R steps vs key to b) (got_from B D Q steps us key to b')
    unfolding got_from
    got_from_linked steps key to {w = w} rs rb = K.bind Value Value _ _ (K.get_value (K.property rb (K.literal w (Str key))) enters) λ w1 l1 v v' rv. answered_in_linked steps to (more_rels A B K l1 rs) rv

    pub had_by_linked : (steps : Steps) (key : List ℕ) (to : Reg) {w : K.W} {vs : List A.V} {us : List B.V} {b : A.V} {b' : B.V} → Rels (K.RV w) vs us → K.RV w b b'
        → K.Lift Value w (had_by A E R steps vs key to b) (had_by B D Q steps us key to b')
    unfolding had_by
    had_by_linked steps key to {w = w} rs rb = K.bind Value Value _ _ (K.act has_key (conses (K.literal w (Str key)) (conses rb nils))) λ w1 l1 v v' rv. answered_in_linked steps to (more_rels A B K l1 rs) rv

    pub put_behind_linked : (steps : Steps) {w : K.W} {vs : List A.V} {us : List B.V} → Rels (K.RV w) vs us → K.Lift Value w (put_behind A E R steps vs tt) (put_behind B D Q steps us tt)
    unfolding put_behind
    put_behind_linked steps rs = h.native (steps_behind steps answer.Done) _ _ _ rs

    pub put_in_linked : (steps : Steps) (key : List ℕ) {w : K.W} {vs : List A.V} {us : List B.V} {v b : A.V} {v' b' : B.V} → Rels (K.RV w) vs us → K.RV w v v' → K.RV w b b'
        → K.Lift Value w (put_in A E R steps vs key v b) (put_in B D Q steps us key v' b')
    unfolding put_in
    put_in_linked steps key {w = w} rs rv rb = K.bind One Value _ _ (K.put_value (K.property rb (K.literal w (Str key))) rv enters) λ w1 l1 a a' ra. put_behind_linked steps (more_rels A B K l1 rs)

    pub deleted_from_linked : (steps : Steps) (key : List ℕ) (to : Reg) {w : K.W} {vs : List A.V} {us : List B.V} {b : A.V} {b' : B.V} → Rels (K.RV w) vs us → K.RV w b b'
        → K.Lift Value w (deleted_from A E R steps vs key to b) (deleted_from B D Q steps us key to b')
    unfolding deleted_from
    deleted_from_linked steps key to {w = w} rs rb = K.bind Value Value _ _ (K.remove (K.property rb (K.literal w (Str key)))) λ w1 l1 v v' rv. answered_in_linked steps to (more_rels A B K l1 rs) rv

    pub own_setter_linked : (steps : Steps) (to : Reg) {w : K.W} {vs : List A.V} {us : List B.V} {v : A.V} {v' : B.V} → Rels (K.RV w) vs us → K.RV w v v'
        → K.Lift Value w (own_setter_read A E R steps vs to v) (own_setter_read B D Q steps us to v')
    unfolding own_setter_read
    own_setter_linked steps to rs rv = h.native (steps_behind steps answer.Done) _ _ _ (with_register_linked to rv rs)

    pub own_getter_linked : (steps : Steps) (key : List ℕ) (g s : Reg) {w : K.W} {vs : List A.V} {us : List B.V} {b v : A.V} {b' v' : B.V} → Rels (K.RV w) vs us → K.RV w b b' → K.RV w v v'
        → K.Lift Value w (own_getter_read A E R steps vs b key g s v) (own_getter_read B D Q steps us b' key g s v')
    unfolding own_getter_read
    own_getter_linked steps key g s rs rb rv = K.bind Value Value _ _ (K.act (own_property own_setter key) (conses rb nils)) λ w1 l1 a a' ra. own_setter_linked steps s (more_rels A B K l1 (with_register_linked g rv rs)) ra

    pub own_value_linked : (steps : Steps) (key : List ℕ) (to g s : Reg) {w : K.W} {vs : List A.V} {us : List B.V} {b v : A.V} {b' v' : B.V} → Rels (K.RV w) vs us → K.RV w b b' → K.RV w v v'
        → K.Lift Value w (own_value_read A E R steps vs b key to g s v) (own_value_read B D Q steps us b' key to g s v')
    unfolding own_value_read
    own_value_linked steps key to g s rs rb rv = K.bind Value Value _ _ (K.act (own_property own_getter key) (conses rb nils)) λ w1 l1 a a' ra.
        own_getter_linked steps key g s (more_rels A B K l1 (with_register_linked to rv rs)) (K.more_v l1 rb) ra

    pub own_marks_linked : (steps : Steps) (key : List ℕ) (marks to g s : Reg) {w : K.W} {vs : List A.V} {us : List B.V} {b v : A.V} {b' v' : B.V} → Rels (K.RV w) vs us → K.RV w b b' → K.RV w v v'
        → K.Lift Value w (own_marks_read A E R steps vs b key marks to g s v) (own_marks_read B D Q steps us b' key marks to g s v')
    unfolding own_marks_read
    own_marks_linked steps key marks to g s rs rb rv = K.bind Value Value _ _ (K.act (own_property own_value key) (conses rb nils)) λ w1 l1 a a' ra.
        own_value_linked steps key to g s (more_rels A B K l1 (with_register_linked marks rv rs)) (K.more_v l1 rb) ra

    -- ---- requests

    made_by_linked : (proto : Option Reg) (class : Class) {w : K.W} {vs : List A.V} {us : List B.V} → Rels (K.RV w) vs us → K.Lift Value w (made_by A E R proto class vs) (made_by B D Q proto class us)
    made_by_linked None class rs = K.act (new_object class false) nils
    made_by_linked (Some r) class rs = K.act (new_object class true) (conses (register_linked r rs) nils)

    -- an act whose value is put into a register, and one whose value is left
    act_in_linked : (f : Act) (steps : Steps) (to : Reg) {w : K.W} {vs as_ : List A.V} {us bs : List B.V} → Rels (K.RV w) vs us → Rels (K.RV w) as_ bs
        → K.Lift Value w (A.bind Value Value (A.act f as_) (answered_in A E R steps vs to)) (B.bind Value Value (B.act f bs) (answered_in B D Q steps us to))
    act_in_linked f steps to rs args = K.bind Value Value _ _ (K.act f args) λ w1 l1 v v' rv. answered_in_linked steps to (more_rels A B K l1 rs) rv

    act_done_linked : (f : Act) (steps : Steps) {w : K.W} {vs as_ : List A.V} {us bs : List B.V} → Rels (K.RV w) vs us → Rels (K.RV w) as_ bs
        → K.Lift Value w (A.bind Value Value (A.act f as_) (answered A E R steps vs)) (B.bind Value Value (B.act f bs) (answered B D Q steps us))
    act_done_linked f steps rs args = K.bind Value Value _ _ (K.act f args) λ w1 l1 v v' rv. answered_linked steps v v' (more_rels A B K l1 rs)

    -- an act on what one register holds
    one_linked : (r : Reg) {w : K.W} {vs : List A.V} {us : List B.V} → Rels (K.RV w) vs us → Rels (K.RV w) (in_register A E R vs r ∷ []) (in_register B D Q us r ∷ [])
    one_linked r rs = conses (register_linked r rs) nils

    -- a base that can have properties, and then the rest
    based_linked : {w : K.W} {b : A.V} {b' : B.V} (f : A.V → A.M Value) (g : B.V → B.M Value) → K.RV w b b' → ((w' : K.W) → K.Le w w' → (v : A.V) (v' : B.V) → K.RV w' v v' → K.Lift Value w' (f v) (g v'))
        → K.Lift Value w (with_base_needed A E R b f) (with_base_needed B D Q b' g)
    based_linked f g rb next = K.bind Value Value f g (K.act base_needed (conses rb nils)) next

    request_linked : (request : Request) (steps : Steps) {w : K.W} {vs : List A.V} {us : List B.V} → Rels (K.RV w) vs us → K.Lift Value w (request_step A E R request steps vs) (request_step B D Q request steps us)
    unfolding request_step
    request_linked (Look r) steps rs = K.look _ _ (register_linked r rs) λ w1 l1 seen. answered_by_linked steps seen (more_rels A B K l1 rs)
    request_linked (Make p to) steps {w = w} rs = answered_in_linked steps to rs (K.literal w p)
    request_linked (Copy from to) steps rs = answered_in_linked steps to rs (register_linked from rs)
    request_linked (Same a b to) steps rs = K.bind Value Value _ _ (K.binary binary_operator.StrictEqual (register_linked a rs) (register_linked b rs)) λ w1 l1 v v' rv. answered_in_linked steps to (more_rels A B K l1 rs) rv
    request_linked (Get base key to) steps rs = based_linked _ _ (register_linked base rs) λ w1 l1 b b' rb. got_from_linked steps key to (more_rels A B K l1 rs) rb
    request_linked (Has base key to) steps rs = based_linked _ _ (register_linked base rs) λ w1 l1 b b' rb. had_by_linked steps key to (more_rels A B K l1 rs) rb
    request_linked (Put base key from) steps rs = based_linked _ _ (register_linked base rs) λ w1 l1 b b' rb. put_in_linked steps key (more_rels A B K l1 rs) (K.more_v l1 (register_linked from rs)) rb
    request_linked (Delete base key to) steps rs = based_linked _ _ (register_linked base rs) λ w1 l1 b b' rb. deleted_from_linked steps key to (more_rels A B K l1 rs) rb
    request_linked (Own base key marks v g s) steps rs = K.bind Value Value _ _ (K.act (own_property own_marks key) (one_linked base rs)) λ w1 l1 a a' ra.
        own_marks_linked steps key marks v g s (more_rels A B K l1 rs) (K.more_v l1 (register_linked base rs)) ra
    request_linked (Define base key marks v g s) steps rs = K.bind Value Value _ _ (K.define key marks (shape_of A E R v g s) (register_linked base rs) (register_if_linked v rs) (register_if_linked g rs) (register_if_linked s rs) enters)
        λ w1 l1 a a' ra. answered_linked steps a a' (more_rels A B K l1 rs)
    request_linked (Keys base all to) steps rs = act_in_linked (own_keys all) steps to rs (one_linked base rs)
    request_linked (Proto base to) steps rs = act_in_linked prototype_of_object steps to rs (one_linked base rs)
    request_linked (Extensible base to) steps rs = act_in_linked is_extensible steps to rs (one_linked base rs)
    request_linked (Prevent base) steps rs = act_done_linked prevent_extensions steps rs (one_linked base rs)
    request_linked (New class proto to) steps rs = K.bind Value Value _ _ (made_by_linked proto class rs) λ w1 l1 v v' rv. answered_in_linked steps to (more_rels A B K l1 rs) rv
    request_linked (Call callee own args to) steps rs = K.bind Value Value _ _ (K.call (register_linked callee rs) (register_linked own rs) (registers_linked args rs) enters) λ w1 l1 v v' rv.
        answered_in_linked steps to (more_rels A B K l1 rs) rv
    request_linked (Construct callee args to) steps rs = K.bind Value Value _ _ (K.construct (register_linked callee rs) (registers_linked args rs) enters) λ w1 l1 v v' rv. answered_in_linked steps to (more_rels A B K l1 rs) rv
    request_linked (Bind target own args to) steps rs = act_in_linked bind steps to rs (conses (register_linked target rs) (conses (register_linked own rs) (registers_linked args rs)))
    request_linked (ReadLine channel to) steps rs = act_in_linked read_line steps to rs (one_linked channel rs)
    request_linked (PrintLine channel from) steps rs = act_done_linked print_line steps rs (conses (register_linked channel rs) (one_linked from rs))
    request_linked (Label from origins to) steps rs = act_in_linked (join_label origins) steps to rs (one_linked from rs)
    request_linked (RaiseStructure base origins) steps rs = act_done_linked (raise_structure origins) steps rs (one_linked base rs)
    request_linked (RaiseExistence base key origins) steps rs = act_done_linked (raise_existence key origins) steps rs (one_linked base rs)
    request_linked (Return from) steps rs = K.ret_value (register_linked from rs)
    request_linked (Throw from) steps rs = K.throw (register_linked from rs)
    request_linked (ThrowNew kind) steps rs = K.act (throws_error kind) nils
    request_linked (Leave text) steps {w = w} rs = K.leave Value w text

    native_linked : (steps : Steps) (w : K.W) (vs : List A.V) (us : List B.V) → Rels (K.RV w) vs us → K.Lift Value w (native_step A E R steps vs) (native_step B D Q steps us)
    unfolding native_step
    native_linked steps w vs us rs = request_linked (steps []) steps rs

    -- ---- the parts

    parts_linked : Linked A B K (parts A E R) (parts B D Q)
    parts_linked = record {
      expr = expr_linked A B K E D enters R Q h;
      use_of = use_linked A B K E D enters R Q h;
      stmt = stmt_linked A B K E D enters R Q h;
      named = named_linked A B K E D enters R Q h;
      turn = turn_linked A B K E D enters R Q h;
      visit = visit_linked A B K E D enters R Q h;
      native = native_linked;
    }

  module _ (R : Rec A) (Q : Rec B) (h : Linked A B K R Q) where
    pub step_linked : (set : BuiltIns) → Linked A B K (step A set R) (step B set Q)
    step_linked set = parts_linked _ _ (entering_linked A B K R Q h set) R Q h

    -- a program, that may declare its functions or not
    pub begun_linked : (may_declare : Bool) (ss : Statements) {w : K.W} {e : Env A.H} {d : Env B.H} → K.RE w e d → K.Lift One w (begun A R may_declare ss e) (begun B Q may_declare ss d)
    unfolding begun
    begun_linked true ss r = statements_linked A B K R Q h ss r
    begun_linked false ss r = K.bind Value One _ _ (K.act (throws_error error.TypeError) nils) λ w1 l1 v v' rv. discard_linked A B K rv

-- with turns
module _ (A B : Timed) (K : Link A.ops B.ops) (tick : (w : K.W) → K.Lift One w A.tick B.tick) (set : BuiltIns) where
  -- one depth more
  pub ticking_linked : (R : Rec A.ops) (Q : Rec B.ops) → Linked A.ops B.ops K R Q → Linked A.ops B.ops K (ticking A (step A.ops set R)) (ticking B (step B.ops set Q))
  ticking_linked R Q l =
      let h = step_linked A.ops B.ops K R Q l set in
      record {
        expr = λ e w i j p. K.bind One Value _ _ (tick w) λ w1 l1 u u' ru. h.expr e w1 i j (K.more_p l1 p);
        use_of = λ use_as e w i j p. K.bind One Value _ _ (tick w) λ w1 l1 u u' ru. h.use_of use_as e w1 i j (K.more_p l1 p);
        stmt = λ s w e d r. K.bind One One _ _ (tick w) λ w1 l1 u u' ru. h.stmt s w1 e d (K.more_e l1 r);
        named = λ labels s w e d r. K.bind One One _ _ (tick w) λ w1 l1 u u' ru. h.named labels s w1 e d (K.more_e l1 r);
        turn = λ round w e d r. K.bind One One _ _ (tick w) λ w1 l1 u u' ru. h.turn round w1 e d (K.more_e l1 r);
        visit = λ w v v' rs e d r. K.bind One One _ _ (tick w) λ w1 l1 u u' ru. h.visit w1 v v' (more_visits A.ops B.ops K l1 rs) e d (K.more_e l1 r);
        native = λ steps w vs us rs. K.bind One Value _ _ (tick w) λ w1 l1 u u' ru. h.native steps w1 vs us (more_rels A.ops B.ops K l1 rs);
      }

  -- to one depth
  module _ (ended : (t : Ty) (w : K.W) → K.Lift t w (A.ended t) (B.ended t)) where
    -- the parts
    pub linked : (n : ℕ) → Linked A.ops B.ops K (eval A set n) (eval B set n)
    unfolding eval
    linked zero = record { expr = λ e w i j p. ended Value w; use_of = λ use_as e w i j p. ended Value w; stmt = λ s w e d r. ended One w; named = λ labels s w e d r. ended One w; turn = λ round w e d r. ended One w; visit = λ w v u rs e d r. ended One w; native = λ steps w vs us rs. ended Value w }
    linked (suc n) = ticking_linked (eval A set n) (eval B set n) (linked n)

    -- and programs
    pub program_linked : (n : ℕ) (may_declare : Bool) (ss : Statements) {w : K.W} {e : Env A.ops.H} {d : Env B.ops.H} → K.RE w e d → K.Lift One w (program_step A set n may_declare ss e) (program_step B set n may_declare ss d)
    unfolding program_step
    program_linked n may_declare ss r = begun_linked A.ops B.ops K (eval A set n) (eval B set n) (linked n) may_declare ss r

  -- to a depth and a larger one, where what is out of depth is related to anything
  module _ (ended : (t : Ty) (w : K.W) (x : B.ops.M t) → K.Lift t w (A.ended t) x) where
    -- the parts
    pub longer : (n m : ℕ) → n ≤ m → Linked A.ops B.ops K (eval A set n) (eval B set m)
    unfolding eval
    longer zero m le = record { expr = λ e w i j p. ended Value w _; use_of = λ use_as e w i j p. ended Value w _; stmt = λ s w e d r. ended One w _; named = λ labels s w e d r. ended One w _; turn = λ round w e d r. ended One w _; visit = λ w v u rs e d r. ended One w _; native = λ steps w vs us rs. ended Value w _ }
    longer (suc n) zero le = absurd (omega arith)
    longer (suc n) (suc m) le = ticking_linked (eval A set n) (eval B set m) (longer n m (omega arith))

    -- and programs
    pub program_longer : (n m : ℕ) → n ≤ m → (may_declare : Bool) (ss : Statements) {w : K.W} {e : Env A.ops.H} {d : Env B.ops.H} → K.RE w e d → K.Lift One w (program_step A set n may_declare ss e) (program_step B set m may_declare ss d)
    unfolding program_step
    program_longer n m le may_declare ss r = begun_linked A.ops B.ops K (eval A set n) (eval B set m) (longer n m le) may_declare ss r
