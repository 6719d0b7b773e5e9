-- The scripts that docs/RULES.md shows of definitions and of objects that are closed, with the channel pin in place of the ballot and all in place of the count.
use Rattle.std.specs.Prelude.{List, [], codes, ℕ, ◌∷◌}
use Rattle.flow_frames.specs.declared.faults.Rule.TheVariants.{W6, W7}
use Rattle.js_ast.specs.Trees.{Expr, Properties, Statement, conditional, no_properties}
use Rattle.flow_meaning.specs.Scopes.{LabelledLine}
use Rattle.meaning_examples.specs.Building.{does, dot, has_value, literal, named, prints, puts, raises_existence, raises_structure, reads, text, var_is, where_one}
use Rattle.meaning_examples.specs.LabelledRuns.{labelled_line, origin_a}
use Rattle.builtin_examples.specs.SetRuns.{Says, Stops, is_false, of_object}

abbrev pub form : Expr
form = named (codes "form")

abbrev pub answer : Expr
answer = dot form (codes "answer")

-- var form = {answer: e, place: "hall"};
abbrev pub form_is : Expr → Statement
form_is e = var_is (codes "form") (literal (has_value (codes "answer") e (has_value (codes "place") (text (codes "hall")) no_properties)))

-- Object.defineProperty(form, key, {..});
abbrev pub defines : List ℕ → Properties → Statement
defines key ps = does (of_object (codes "defineProperty") (form ∷ text key ∷ literal ps ∷ []))

-- value: read("pin"), writable: false
abbrev pub value_read : Properties → Properties
value_read ps = has_value (codes "value") (reads (codes "pin")) ps

abbrev pub not_writable : Properties → Properties
not_writable ps = has_value (codes "writable") is_false ps

abbrev pub fixed : Properties
fixed = not_writable (has_value (codes "configurable") is_false no_properties)

abbrev pub none : Expr
none = text (codes "none")

-- Object.preventExtensions(form);
abbrev pub prevents : Statement
prevents = does (of_object (codes "preventExtensions") (form ∷ []))

-- Object.freeze(form);
abbrev pub freezes : Statement
freezes = does (of_object (codes "freeze") (form ∷ []))

-- Object.isExtensible(form) ? "Open" : "Closed"
abbrev pub open_or_closed : Expr
open_or_closed = conditional 0 (of_object (codes "isExtensible") (form ∷ [])) (text (codes "Open")) (text (codes "Closed"))

abbrev pub counted : List ℕ → List LabelledLine
counted t = labelled_line (codes "all") t origin_a ∷ []

pub record DocumentRows : Type 0 where
  -- var form = {answer: "none", place: "hall"}; Object.defineProperty(form, "answer", {value: read("pin"), writable: false}); print("all", form.answer);
  pub defined_value_stops : Stops (form_is none ∷ defines (codes "answer") (value_read (not_writable no_properties)) ∷ prints (codes "all") answer ∷ []) W6
  -- form.answer = read("pin"); Object.defineProperty(form, "answer", {writable: false}); print("all", form.answer);
  pub assigned : Says (form_is none ∷ does (puts answer (reads (codes "pin"))) ∷ defines (codes "answer") (not_writable no_properties) ∷ prints (codes "all") answer ∷ []) (counted (codes "1"))
  -- upge(form, "answer", "A"); Object.defineProperty(form, "answer", {value: read("pin"), writable: false}); print("all", form.answer);
  pub raised : Says (form_is none ∷ does (raises_existence form (codes "answer")) ∷ defines (codes "answer") (value_read (not_writable no_properties)) ∷ prints (codes "all") answer ∷ [])
      (counted (codes "1"))
  -- var form = {answer: read("pin"), place: "hall"}; Object.defineProperty(form, "answer", {writable: false, configurable: false}); and so of "place";
  -- Object.preventExtensions(form); print("all", form.answer);
  pub fixed_by_hand : Says (form_is (reads (codes "pin")) ∷ defines (codes "answer") fixed ∷ defines (codes "place") fixed ∷ prevents ∷ prints (codes "all") answer ∷ []) (counted (codes "1"))
  -- var form = {answer: read("pin"), place: "hall"}; Object.freeze(form);
  pub freeze_stops : Stops (form_is (reads (codes "pin")) ∷ freezes ∷ []) W6
  -- upge(form, "answer", "A"); upge(form, "place", "A"); upgs(form, "A"); Object.freeze(form); print("all", form.answer);
  pub frozen : Says (form_is (reads (codes "pin")) ∷ does (raises_existence form (codes "answer")) ∷ does (raises_existence form (codes "place")) ∷ raises_structure form ∷ freezes ∷ prints (codes "all") answer ∷ [])
      (counted (codes "1"))
  -- if (read("pin") == "1") Object.preventExtensions(form); print("all", Object.isExtensible(form) ? "Open" : "Closed");
  pub prevention_stops : Stops (form_is none ∷ where_one prevents ∷ prints (codes "all") open_or_closed ∷ []) W7
  -- upgs(form, "A"); if (read("pin") == "1") Object.preventExtensions(form); print("all", Object.isExtensible(form) ? "Open" : "Closed");
  pub prevented : Says (form_is none ∷ raises_structure form ∷ where_one prevents ∷ prints (codes "all") open_or_closed ∷ []) (counted (codes "Closed"))
