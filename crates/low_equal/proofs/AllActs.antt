-- All acts: in one run and in two.
use Rattle.std.proofs.Common.{List, true, false, Some}
use Rattle.origin_labels.specs.Label.{Label, bottom, label_of}
use Rattle.flow_policy.specs.Policies.{Tables}
use Rattle.flow_policy.specs.Inputs.{Given}
use Rattle.flow_policy.specs.Observed.{Agree as AgreeOn}
use Rattle.es_meaning.specs.Outcomes.{ret}
use Rattle.es_meaning.specs.Operations.{Act, object_of, array_of, base_needed, object_needed, has_key, throws_error, own_property, own_keys, prototype_of_object, is_extensible, prevent_extensions, new_object, bind, read_line, print_line, join_label, raise_structure as raise_structure_by, raise_existence as raise_existence_by}
use Rattle.es_meaning.specs.Plain.{others, channel_of}
use Rattle.es_meaning.specs.Requested.{class_prototype}
use Rattle.es_meaning.proofs.Link.{Rels, nils, conses}
use Rattle.flow_meaning.specs.Scopes.{Val, joined, State}
use Rattle.flow_meaning.specs.Tracked.{argument, on_object, raise_structure, raise_existence, act}
use Rattle.low_equal.specs.Observed.{IsSeen}
use Rattle.low_equal.specs.LowEqual.{Pairing, Agree, LowEqual}
use Rattle.low_equal.specs.Runs.{Confined, InStep, go, Lockstep}
use Rattle.low_equal.proofs.Agreement.{extends_refl}
use Rattle.low_equal.proofs.Channels.{stands}
use Rattle.low_equal.proofs.Steps.{conf_ret}
use Rattle.low_equal.proofs.Acts.{conf_throw, thrown_both}
use Rattle.low_equal.proofs.References.{no_cause}
use Rattle.low_equal.proofs.ObjectActs.{conf_needed, needed_after, coercible_same, object_same, conf_has, has_after, conf_make, make_after, conf_array, array_after, argument_agree, rels_more}
use Rattle.low_equal.proofs.Owns.{conf_on_object, conf_own_property, own_property_after, conf_prototype, prototype_after, conf_extensible, extensible_after, conf_prevent, prevent_after}
use Rattle.low_equal.proofs.News.{conf_new, conf_new_by, conf_keys_of, keys_of_after, new_after, new_given_after, conf_bind_act, bind_after}
use Rattle.low_equal.proofs.Raises.{conf_raise_structure, raise_structure_after, conf_raise_existence, raise_existence_after}
use Rattle.low_equal.proofs.ChannelActs.{conf_read, read_after, conf_print, print_after, conf_origins, origins_after, labelled_agree}

module _ (observer : Label) (tables : Tables) where
  -- the arguments behind the first
  others_agree : {γ : Pairing} {vs us : List Val} → Rels (Agree observer γ) vs us → Rels (Agree observer γ) (others vs) (others us)
  others_agree nils = nils
  others_agree (conses a r) = r

  pub conf_act : (inputs : Given) (a : Act) (vs : List Val) → Confined observer tables (act tables inputs a vs)
  unfolding act
  conf_act inputs (object_of parts) vs = conf_make observer tables parts vs
  conf_act inputs (array_of places n) vs = conf_array observer tables places n vs
  conf_act inputs base_needed vs = conf_needed observer tables _ _
  conf_act inputs object_needed vs = conf_needed observer tables _ _
  conf_act inputs has_key vs = conf_has observer tables _ _ _
  conf_act inputs (throws_error kind) vs = conf_throw observer tables kind bottom
  conf_act inputs (own_property part key) vs = conf_own_property observer tables part key (argument 0 vs)
  conf_act inputs (own_keys all) vs = conf_on_object observer tables (argument 0 vs).label (argument 0 vs).value (λ o. conf_keys_of observer tables all (argument 0 vs).label o)
  conf_act inputs prototype_of_object vs = conf_prototype observer tables (argument 0 vs)
  conf_act inputs is_extensible vs = conf_extensible observer tables (argument 0 vs)
  conf_act inputs prevent_extensions vs = conf_prevent observer tables (argument 0 vs)
  conf_act inputs (new_object c false) vs = conf_new observer tables c (Some (class_prototype c)) bottom
  conf_act inputs (new_object c true) vs = conf_new_by observer tables c (argument 0 vs)
  conf_act inputs bind vs = conf_bind_act observer tables (argument 0 vs) (argument 1 vs) (others (others vs))
  conf_act inputs read_line vs = conf_read observer tables inputs (channel_of tables.inputs (argument 0 vs).value) (stands tables.inputs (argument 0 vs).value) (argument 0 vs).label
  conf_act inputs print_line vs = conf_print observer tables inputs (channel_of tables.outputs (argument 0 vs).value) (stands tables.outputs (argument 0 vs).value) (argument 0 vs).label (argument 1 vs)
  conf_act inputs (join_label origins) vs = conf_origins observer tables inputs origins (conf_ret observer tables (joined (label_of origins) (argument 0 vs)))
  conf_act inputs (raise_structure_by origins) vs = conf_origins observer tables inputs origins (conf_raise_structure observer tables origins (argument 0 vs))
  conf_act inputs (raise_existence_by key origins) vs = conf_origins observer tables inputs origins (conf_raise_existence observer tables origins key (argument 0 vs))

  act_after : {γ : Pairing} (first second : Given) → AgreeOn observer tables first second → (a : Act) {vs us : List Val} (s t : State) → Rels (Agree observer γ) vs us → LowEqual observer tables γ s t → IsSeen observer s
      → InStep observer tables (Agree observer) γ (act tables first a vs s) (act tables second a us t)
  unfolding act
  act_after first second agree (object_of parts) s t q r w = make_after observer tables parts s t q r w
  act_after first second agree (array_of places n) s t q r w = array_after observer tables places n s t q r w
  act_after first second agree base_needed s t q r w = needed_after observer tables _ _ s t (argument_agree observer tables 0 q) (λ x. coercible_same observer tables x) r w
  act_after first second agree object_needed s t q r w = needed_after observer tables _ _ s t (argument_agree observer tables 0 q) (λ x. object_same observer tables x) r w
  act_after first second agree has_key {vs} {us} s t q r w = has_after observer tables {k = argument 0 vs} {j = argument 0 us} {v = argument 1 vs} {u = argument 1 us} s t (argument_agree observer tables 0 q) (argument_agree observer tables 1 q) r w
  act_after first second agree (throws_error kind) s t q r w = thrown_both observer tables (Agree observer) kind s t (no_cause observer tables) r w
  act_after first second agree (own_property part key) {vs} {us} s t q r w = own_property_after observer tables part key {v = argument 0 vs} {u = argument 0 us} s t (argument_agree observer tables 0 q) r w
  act_after first second agree (own_keys all) {vs} {us} s t q r w = keys_of_after observer tables all {v = argument 0 vs} {u = argument 0 us} s t (argument_agree observer tables 0 q) r w
  act_after first second agree prototype_of_object {vs} {us} s t q r w = prototype_after observer tables {v = argument 0 vs} {u = argument 0 us} s t (argument_agree observer tables 0 q) r w
  act_after first second agree is_extensible {vs} {us} s t q r w = extensible_after observer tables {v = argument 0 vs} {u = argument 0 us} s t (argument_agree observer tables 0 q) r w
  act_after first second agree prevent_extensions {vs} {us} s t q r w = prevent_after observer tables {v = argument 0 vs} {u = argument 0 us} s t (argument_agree observer tables 0 q) r w
  act_after first second agree (new_object c false) s t q r w = new_after observer tables c s t r w
  act_after first second agree (new_object c true) {vs} {us} s t q r w = new_given_after observer tables c {v = argument 0 vs} {u = argument 0 us} s t (argument_agree observer tables 0 q) r w
  act_after first second agree bind {vs} {us} s t q r w = bind_after observer tables {target = argument 0 vs} {other = argument 0 us} {this = argument 1 vs} {that = argument 1 us} s t (argument_agree observer tables 0 q) (argument_agree observer tables 1 q) (others_agree (others_agree q)) r w
  act_after first second agree read_line {vs} {us} s t q r w = read_after observer tables first second agree {v = argument 0 vs} {u = argument 0 us} s t (argument_agree observer tables 0 q) r w
  act_after first second agree print_line {vs} {us} s t q r w = print_after observer tables first second {n = argument 0 vs} {m = argument 0 us} {v = argument 1 vs} {u = argument 1 us} s t (argument_agree observer tables 0 q) (argument_agree observer tables 1 q) r w
  act_after {γ} first second agree (join_label origins) {vs} {us} s t q r w = origins_after observer tables first second origins (ret (joined (label_of origins) (argument 0 vs))) (ret (joined (label_of origins) (argument 0 us))) s t r
      (go γ (extends_refl γ) r w (labelled_agree observer tables origins (argument_agree observer tables 0 q)))
  act_after first second agree (raise_structure_by origins) {vs} {us} s t q r w = origins_after observer tables first second origins (on_object (argument 0 vs) (raise_structure origins (argument 0 vs).label)) (on_object (argument 0 us) (raise_structure origins (argument 0 us).label)) s t r
      (raise_structure_after observer tables origins {v = argument 0 vs} {u = argument 0 us} s t (argument_agree observer tables 0 q) r w)
  act_after first second agree (raise_existence_by key origins) {vs} {us} s t q r w = origins_after observer tables first second origins (on_object (argument 0 vs) (raise_existence origins (argument 0 vs).label key)) (on_object (argument 0 us) (raise_existence origins (argument 0 us).label key)) s t r
      (raise_existence_after observer tables origins key {v = argument 0 vs} {u = argument 0 us} s t (argument_agree observer tables 0 q) r w)

  pub lock_act : {β : Pairing} (first second : Given) → AgreeOn observer tables first second → (a : Act) {vs us : List Val} → Rels (Agree observer β) vs us → Lockstep observer tables (Agree observer) β (act tables first a vs) (act tables second a us)
  lock_act first second agree a q = record { steps = λ γ e s t r w. act_after first second agree a s t (rels_more observer tables e q) r w }
