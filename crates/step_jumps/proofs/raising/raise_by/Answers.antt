use Rattle.std.proofs.Common.{sym, ap, subst, refl, ◌∙◌, ℕ, IfSome}
use Rattle.std.specs.Option.{option_map}
use Rattle.origin_labels.proofs.StoreLaws.{IsKept-refl, IsKept-trans}
use Rattle.flow_frames.proofs.StandingLaws.{Belong-kept}
use Rattle.js_ast.specs.Views.{view_expr}
use Rattle.js_values.proofs.ReadingLaws.{IsReading-earlier}
use Rattle.es_meaning.specs.Directives.{upgrade_of}
use Rattle.es_meaning.specs.Environments.{Env, aimed}
use Rattle.es_meaning.specs.Outcomes.{Exit}
use Rattle.flow_meaning.specs.Tracked.{named_origins, raises}
use Rattle.flow_lists.specs.Lists.{names_in}
use Rattle.continuations.specs.declared.continuation.Reason.TheVariants as reason
use Rattle.continuations.specs.declared.continuation.Control.TheVariants as control
use Rattle.continuations.specs.Going.{here}
use Rattle.continuations.specs.Pending.{setting_above}
use Rattle.continuations.specs.Settings.{setting_of}
use Rattle.step_jumps.specs.Raising.{leaving_by, upgrade_held}
use Rattle.step_jumps.proofs.Obeyed.{known_origins, no_directive, obeyed_fails, obeyed_goes, obeyed_so, standing_obeyed, unknown_origin}
use Rattle.step_jumps.proofs.Places.{env_is}
use Rattle.step_jumps.proofs.OriginLaws.{all_known, one_unknown}
use Rattle.step_jumps.proofs.raising.raise_by.Goals as goal

pub returns-in_default-clause-resumes : goal.returns-in_default-clause-resumes
returns-in_default-clause-resumes g c = λ inputs set functions natives.
    obeyed_so c.args.policy.now inputs set functions g.L.Labels.made g.L.Labels.meaning c.args.labels.now natives c.args.e c.args.stack.now c.args.world.now c.clear.new.self control.Done (λ vs e s. refl) c.clear.ensures.tasks
    (λ reading s is. no_directive c.args.policy.now inputs set functions (upgrade_of (view_expr c.args.e.now)) (setting_above c.args.stack.now.tasks (setting_of natives here)).env _ s (sym c.in_default.ensures))

pub returns-in_default-clause-standing : goal.returns-in_default-clause-standing
returns-in_default-clause-standing g c =
    standing_obeyed g.L.Labels.made g.L.Labels.meaning g.L.Labels.room g.L.Labels.firm c.args.labels.now c.args.labels.now (IsKept-refl _ _ _ _ _) c.args.stack.now c.clear.new.self c.args.world.now c.args.world.now.frames control.Done (λ n m e. e) refl c.requires.standing c.clear.ensures.tasks c.clear.ensures.none c.requires.standing.belongs.frames c.requires.standing.belongs.catch refl

pub returns-in_default-2-clause-resumes : goal.returns-in_default-2-clause-resumes
returns-in_default-2-clause-resumes g c = λ inputs set functions natives.
    obeyed_so c.args.policy.now inputs set functions g.L.Labels.made g.L.Labels.meaning c.origins_in.new.labels natives c.args.e c.args.stack.now c.args.world.now c.clear.new.self (control.Leave reason.Origin) (λ vs e s. refl) c.clear.ensures.tasks
    (λ reading s is. unknown_origin c.args.policy.now inputs set functions (upgrade_of (view_expr c.args.e.now)) (upgrade_held c.in-Some.directive) (setting_above c.args.stack.now.tasks (setting_of natives here)) _ s (sym c.in-Some.ensures)
    (one_unknown (named_origins c.args.policy.now inputs (names_in c.in-Some.directive.list.now)) (sym (ap (λ found. option_map (g.L.Labels.meaning c.origins_in.new.labels) found) c.in_default-2.is) ∙ c.in_ok-label.ensures.origins inputs)))

pub returns-in_default-2-clause-standing : goal.returns-in_default-2-clause-standing
returns-in_default-2-clause-standing g c =
    standing_obeyed g.L.Labels.made g.L.Labels.meaning g.L.Labels.room g.L.Labels.firm c.args.labels.now c.origins_in.new.labels c.in_ok-label.ensures.kept c.args.stack.now c.clear.new.self c.args.world.now c.args.world.now.frames (control.Leave reason.Origin) (λ n m e. e) refl c.requires.standing c.clear.ensures.tasks c.clear.ensures.none
    (Belong-kept g.L.Labels.made g.L.Labels.meaning g.met.L.Labels.rising g.L.Labels.room g.L.Labels.firm c.args.labels.now c.origins_in.new.labels c.args.world.now.frames.frames c.in_ok-label.ensures.kept c.requires.standing.belongs.frames) c.requires.standing.belongs.catch refl

pub raise_at-requires-clause-belongs : goal.raise_at-requires-clause-belongs
raise_at-requires-clause-belongs g c = Belong-kept g.L.Labels.made g.L.Labels.meaning g.met.L.Labels.rising g.L.Labels.room g.L.Labels.firm c.args.labels.now c.origins_in.new.labels c.args.world.now.frames.frames c.in_ok-label.ensures.kept c.requires.standing.belongs.frames

pub returns-in_err-raise_at-clause-resumes : goal.returns-in_err-raise_at-clause-resumes
returns-in_err-raise_at-clause-resumes g c = λ inputs set functions natives.
    let has = subst (λ found. IfSome found (g.L.Labels.made c.origins_in.new.labels)) c.in-Some-2.is c.in_ok-label.ensures.made in
    let known = all_known (named_origins c.args.policy.now inputs (names_in c.in-Some.directive.list.now)) (g.L.Labels.meaning c.origins_in.new.labels c.in-Some-2.label) (sym (ap (λ found. option_map (g.L.Labels.meaning c.origins_in.new.labels) found) c.in-Some-2.is) ∙ c.in_ok-label.ensures.origins inputs) in
    obeyed_fails c.args.policy.now inputs set functions g.L.Labels.made g.L.Labels.meaning c.raise_at.new.labels natives c.args.e c.args.stack.now c.args.world.now c.raise_at.new.frames
    (λ reading s. raises (leaving_by c.in-Some.directive.leaving) (aimed 0 (leaving_by c.in-Some.directive.leaving) (setting_above c.args.stack.now.tasks (setting_of natives here)).env) (reading c.in-Some-2.label) s)
    (λ reading s is. known_origins c.args.policy.now inputs set functions (upgrade_of (view_expr c.args.e.now)) (upgrade_held c.in-Some.directive) known.0 (reading c.in-Some-2.label) (setting_above c.args.stack.now.tasks (setting_of natives here)).env _ s (sym c.in-Some.ensures) known.1
    ((IsReading-earlier g.L.Labels.made g.L.Labels.meaning g.L.Labels.room g.L.Labels.firm c.origins_in.new.labels c.raise_at.new.labels reading c.raise_at.ensures.kept is).agrees c.in-Some-2.label has ∙ known.2))
    (Unit {0}) c.in_err-raise_at.field-0.0 c.clear.new.self c.from_residual-in_err-raise_at.result c.from_residual-in_err-raise_at.ensures.1
    (λ reading s is. c.in_err-raise_at.ensures.raises (aimed 0 (leaving_by c.in-Some.directive.leaving) (setting_above c.args.stack.now.tasks (setting_of natives here)).env) reading s (c.requires.aim (upgrade_held c.in-Some.directive) (sym c.in-Some.ensures) ∙ sym (ap (λ (e : Env ℕ). option_map (λ (f : Exit × ℕ). f.1) (aimed 0 (leaving_by c.in-Some.directive.leaving) e)) (env_is c.args.stack.now.tasks natives))) is)

pub returns-clause-resumes : goal.returns-clause-resumes
returns-clause-resumes g c = λ inputs set functions natives.
    let has = subst (λ found. IfSome found (g.L.Labels.made c.origins_in.new.labels)) c.in-Some-2.is c.in_ok-label.ensures.made in
    let known = all_known (named_origins c.args.policy.now inputs (names_in c.in-Some.directive.list.now)) (g.L.Labels.meaning c.origins_in.new.labels c.in-Some-2.label) (sym (ap (λ found. option_map (g.L.Labels.meaning c.origins_in.new.labels) found) c.in-Some-2.is) ∙ c.in_ok-label.ensures.origins inputs) in
    obeyed_goes c.args.policy.now inputs set functions g.L.Labels.made g.L.Labels.meaning c.raise_at.new.labels natives c.args.e c.args.stack.now c.args.world.now c.raise_at.new.frames
    (λ reading s. raises (leaving_by c.in-Some.directive.leaving) (aimed 0 (leaving_by c.in-Some.directive.leaving) (setting_above c.args.stack.now.tasks (setting_of natives here)).env) (reading c.in-Some-2.label) s)
    (λ reading s is. known_origins c.args.policy.now inputs set functions (upgrade_of (view_expr c.args.e.now)) (upgrade_held c.in-Some.directive) known.0 (reading c.in-Some-2.label) (setting_above c.args.stack.now.tasks (setting_of natives here)).env _ s (sym c.in-Some.ensures) known.1
    ((IsReading-earlier g.L.Labels.made g.L.Labels.meaning g.L.Labels.room g.L.Labels.firm c.origins_in.new.labels c.raise_at.new.labels reading c.raise_at.ensures.kept is).agrees c.in-Some-2.label has ∙ known.2))
    (tt {0}) c.clear.new.self c.clear.ensures.tasks
    (λ reading s is. c.in_ok-raise_at.ensures.raises (aimed 0 (leaving_by c.in-Some.directive.leaving) (setting_above c.args.stack.now.tasks (setting_of natives here)).env) reading s (c.requires.aim (upgrade_held c.in-Some.directive) (sym c.in-Some.ensures) ∙ sym (ap (λ (e : Env ℕ). option_map (λ (f : Exit × ℕ). f.1) (aimed 0 (leaving_by c.in-Some.directive.leaving) e)) (env_is c.args.stack.now.tasks natives))) is)

pub returns-clause-standing : goal.returns-clause-standing
returns-clause-standing g c =
    standing_obeyed g.L.Labels.made g.L.Labels.meaning g.L.Labels.room g.L.Labels.firm c.args.labels.now c.raise_at.new.labels (IsKept-trans _ _ _ _ _ _ _ c.in_ok-label.ensures.kept c.raise_at.ensures.kept) c.args.stack.now c.clear.new.self c.args.world.now c.raise_at.new.frames control.Done (λ n m e. e) refl c.requires.standing c.clear.ensures.tasks c.clear.ensures.none
    c.raise_at.ensures.belongs c.raise_at.ensures.catch c.raise_at.ensures.length
