use Rattle.std.proofs.Common.{sym, ap, ◌∙◌}
use Rattle.std.specs.Prelude.{◌&&◌}
use Rattle.weighted_automata.specs.declared.place.Label.TheVariants.{Symbol}
use Rattle.weighted_automata.specs.Places.{same_label, same_place}
use Rattle.key_rows.specs.Rows.{index_where}
use Rattle.direction_parts.specs.Places.{arrow}
use Rattle.prestar_laws.specs.Jobs.{goes_on}
use Rattle.prestar.specs.private.Pushes.{kind_of}
use Rattle.direction_parts.proofs.CallerLemmas.{none_where}
use Rattle.prestar.proofs.push.Push.only_first.Goals as goal

pub returns-then-not-fits_second : goal.returns-then-not-fits_second
returns-then-not-fits_second g c =
    let push = c.args.self.now in
    let t = c.args.taken.now in
    let ts = c.args.transitions.now.transitions in
    let goes = goes_on push.controls (kind_of push.callee) in
    none_where (same_label t.place.label (Symbol push.below) && goes t.place.from) (λ u. same_place u.place (arrow push.rule.now.to push.top t.place.from)) ts (sym c.fits_second.ensures ∙ c.if-not-fits_second.true)

pub returns : goal.returns
returns g c =
    let push = c.args.self.now in
    let t = c.args.taken.now in
    let ts = c.args.transitions.now.transitions in
    let goes = goes_on push.controls (kind_of push.callee) in
    c.find.ensures.index ∙ ap (λ b. index_where (λ u. b && same_place u.place (arrow push.rule.now.to push.top t.place.from)) ts) (sym c.if-not-fits_second.false ∙ c.fits_second.ensures)
