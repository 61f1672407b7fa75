use Rattle.std.proofs.Common.{◌++◌, map, sym, ap, ◌∙◌, subst, append-nil}
use Rattle.std.specs.Prelude.{IsTrue}
use Rattle.std.proofs.lemmas.List.{take_all}
use Rattle.std.proofs.lemmas.List.Elements.{All-get_or}
use Rattle.saturation_laws.specs.Jobs.{row_of, InputsFit}
use Rattle.saturation_laws.specs.States.{change_of}
use Rattle.saturation_laws.proofs.ListedJobs.{listed_rows, listed_inputs, made_more, change_is}
use Rattle.saturation_laws.proofs.direction.Direction.changes.Goals as goal

pub loop-job-init : goal.loop-job-init
loop-job-init g c = sym (append-nil c.args.into.now.items)

pub candidate-requires-clause-row : goal.candidate-requires-clause-row
candidate-requires-clause-row g c =
    let p = c.args.system.now in
    let d = g.Self.Direction.way.tables c.args.self.now p in
    let js = c.as_slice-job-items.result.now in
    let t = c.entry-taken.result.now in
    let P : _ → Type 0 = λ j. IsTrue (d.rows (row_of j)) in
    let rows = listed_rows (g.met.Self.Direction.laws c.args.self.now p c.requires.fits.0 c.semiring-semiring.ensures.valid c.requires.fits.1) c.args.transitions.now.transitions c.len-count.ensures.distinct
    t c.entry-taken.ensures.present js (c.as_slice-job-items.ensures ∙ c.in_ok-jobs.ensures t c.entry-taken.ensures.entry) in
    subst P (sym c.job-item.is) (All-get_or P js c.loop-job.job-index c.job-item.result c.loop-job-test.true rows)

pub candidate-requires-clause-inputs : goal.candidate-requires-clause-inputs
candidate-requires-clause-inputs g c =
    let p = c.args.system.now in
    let s = g.S.Semiring.operations p.semiring in
    let d = g.Self.Direction.way.tables c.args.self.now p in
    let js = c.as_slice-job-items.result.now in
    let t = c.entry-taken.result.now in
    let fit = listed_inputs (g.met.Self.Direction.laws c.args.self.now p c.requires.fits.0 c.semiring-semiring.ensures.valid c.requires.fits.1) c.args.transitions.now.transitions c.len-count.ensures.distinct
    t c.entry-taken.ensures.present js (c.as_slice-job-items.ensures ∙ c.in_ok-jobs.ensures t c.entry-taken.ensures.entry) c.requires.fit in
    subst (InputsFit s) (sym c.job-item.is) (All-get_or (InputsFit s) js c.loop-job.job-index c.job-item.result c.loop-job-test.true fit)

pub loop-job-preserved : goal.loop-job-preserved
loop-job-preserved g c =
    let p = c.args.system.now in
    let s = g.S.Semiring.operations p.semiring in
    let d = g.Self.Direction.way.tables c.args.self.now p in
    made_more (change_of s d) c.args.into.now.items c.loop-job.into.items c.push.new.self.items c.as_slice-job-items.result.now c.loop-job.job-index c.job-item.result c.change.result
    c.loop-job-test.true c.job-item.is c.loop-job.invariant c.in_ok-push.ensures.items
    (change_is s d c.view.result c.job-item.result c.in_ok-weight.weight c.change.result c.view.ensures c.in_ok-weight.ensures c.change.ensures)

pub returns : goal.returns
returns g c = λ t there.
    let p = c.args.system.now in
    let f = change_of (g.S.Semiring.operations p.semiring) (g.Self.Direction.way.tables c.args.self.now p) in
    c.loop-job.invariant
    ∙ ap (λ js. c.args.into.now.items ++ map f js) (take_all c.loop-job.job-index c.as_slice-job-items.result.now c.loop-job-test.false ∙ c.as_slice-job-items.ensures ∙ c.in_ok-jobs.ensures t there)
