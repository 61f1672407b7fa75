use Rattle.std.proofs.Common.{sym, ap, ◌∙◌}
use Rattle.std.specs.Prelude.{◌&&◌, Some, None}
use Rattle.weighted_automata.specs.declared.place.Label.TheVariants.{Symbol}
use Rattle.weighted_automata.specs.Places.{same_label}
use Rattle.direction_parts.specs.Places.{arrow}
use Rattle.prestar_laws.specs.Jobs.{goes_on}
use Rattle.prestar.specs.private.Pushes.{kind_of}
use Rattle.prestar.specs.private.Rows.{is_first}
use Rattle.std.proofs.lemmas.Option.{same_Some}
use Rattle.direction_parts.proofs.CallerLemmas.{not_there}
use Rattle.prestar.proofs.RowLemmas.{no_other}
use Rattle.prestar.proofs.push.Push.first_behind.Goals as goal

pub returns-in_default : goal.returns-in_default
returns-in_default g c = λ e.
    let push = c.args.self.now in
    let t = c.args.taken.now in
    let ts = c.args.transitions.now.transitions in
    let goes = goes_on push.controls (kind_of push.callee) in
    not_there (is_first push.controls (kind_of push.callee) push.rule.now push.top push.below t) c.args.i ts None (sym c.in_default.is ∙ e) (λ h. cc)

pub returns-then-j-i : goal.returns-then-j-i
returns-then-j-i g c = λ e.
    let push = c.args.self.now in
    let t = c.args.taken.now in
    let ts = c.args.transitions.now.transitions in
    let goes = goes_on push.controls (kind_of push.callee) in
    sym c.in-Some.is ∙ not_there (is_first push.controls (kind_of push.callee) push.rule.now push.top push.below t) c.args.i ts c.args.at e (λ h. c.if-j-i.true (same_Some c.in-Some.j c.args.i (sym c.in-Some.is ∙ h)))

pub returns : goal.returns
returns g c = λ e.
    let push = c.args.self.now in
    let t = c.args.taken.now in
    let ts = c.args.transitions.now.transitions in
    let goes = goes_on push.controls (kind_of push.callee) in
    no_other (same_label t.place.label (Symbol push.below) && goes t.place.from) (arrow push.rule.now.to push.top t.place.from) ts c.args.i c.len-count.ensures.distinct
    (sym e ∙ c.in-Some.is ∙ ap Some c.if-j-i.false)
