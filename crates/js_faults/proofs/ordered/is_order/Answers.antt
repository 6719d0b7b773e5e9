use Rattle.std.proofs.Common.{◌≡◌, ◌-◌, ◌∙◌, sym, true, arith, rules}
use Rattle.js_faults.proofs.Walking.{rises_none, rises_more, rises_all}
use Rattle.js_faults.proofs.ordered.is_order.Goals as goal

pub places-init : goal.places-init
places-init g c = rises_none _ _ _

pub stands_at-requires : goal.stands_at-requires
stands_at-requires g c = record { place = c.places-test.true; before = λ pos. c.places.invariant.within (c.places.p - 1) (omega arith) }

pub places-preserved : goal.places-preserved
places-preserved g c = let stands : c.stands_at.result ≡ true = search rules in rises_more _ _ _ _ c.places.invariant (sym c.stands_at.ensures ∙ stands)

pub returns-clause-yes : goal.returns-clause-yes
returns-clause-yes g c = λ is. rises_all g.T.Keyed.entry c.args.nodes.now c.args.order.now c.places.p (omega arith) (omega arith) c.places.invariant
