use Rattle.std.proofs.Common.{sym, ap, ◌∙◌}
use Rattle.std.specs.Prelude.{◌&&◌}
use Rattle.weighted_automata.specs.declared.place.Label.TheVariants.{Symbol}
use Rattle.weighted_automata.specs.Entries.{is_from}
use Rattle.key_rows.specs.Rows.{index_where}
use Rattle.prestar_laws.specs.Jobs.{goes_on}
use Rattle.prestar.specs.private.Pushes.{kind_of}
use Rattle.direction_parts.proofs.CallerLemmas.{none_where}
use Rattle.prestar.proofs.push.Push.first_second.Goals as goal

pub returns-then-not-fits_first : goal.returns-then-not-fits_first
returns-then-not-fits_first g c =
    let push = c.args.self.now in
    let t = c.args.taken.now in
    let ts = c.args.transitions.now.transitions in
    let goes = goes_on push.controls (kind_of push.callee) in
    none_where (is_from push.rule.now.to (Symbol push.top) t && goes t.place.to) (is_from t.place.to (Symbol push.below)) ts (sym c.fits_first.ensures ∙ c.if-not-fits_first.true)

pub returns : goal.returns
returns g c =
    let push = c.args.self.now in
    let t = c.args.taken.now in
    let ts = c.args.transitions.now.transitions in
    let goes = goes_on push.controls (kind_of push.callee) in
    c.first_from.ensures ∙ ap (λ b. index_where (λ u. b && is_from t.place.to (Symbol push.below) u) ts) (sym c.if-not-fits_first.false ∙ c.fits_first.ensures)
