use Rattle.std.proofs.Common.{◌≡◌, ℕ, ◌++◌, replicate, refl, sym, ap, ap₂, ◌∙◌}
use Rattle.std.specs.Prelude.{Some, slice_get}
use Rattle.std.proofs.lemmas.Option.{slice_get_read}
use Rattle.boolean_programs.specs.Programs.{program_of}
use Rattle.program_traces.proofs.WidthLemmas.{widths_next, width_few}
use Rattle.program_traces.proofs.widths.widths_of.Goals as goal

pub width-requires : goal.width-requires
width-requires c =
    let procs = c.args.program.now.procs in
    let i = c.loop-owner.owner-index in
    let q = c.owner-item.result in
    let there : slice_get procs i ≡ Some q =
    ap (λ l. slice_get l i) (sym c.as_slice-owner-items.ensures) ∙ slice_get_read c.as_slice-owner-items.result.now _ i q refl c.loop-owner-test.true c.owner-item.is in
    width_few (program_of c.args.program.now) procs refl i q there c.requires

pub loop-owner-preserved : goal.loop-owner-preserved
loop-owner-preserved c =
    let procs = c.args.program.now.procs in
    let i = c.loop-owner.owner-index in
    let q = c.owner-item.result in
    let there : slice_get procs i ≡ Some q =
    ap (λ l. slice_get l i) (sym c.as_slice-owner-items.ensures) ∙ slice_get_read c.as_slice-owner-items.result.now _ i q refl c.loop-owner-test.true c.owner-item.is in
    widths_next (program_of c.args.program.now) procs refl i q there c.loop-owner.widths.items c.push_copies.new.list.items
    (c.in_ok-push_copies.ensures ∙ ap₂ (λ (k w : ℕ). c.loop-owner.widths.items ++ replicate k w) c.len.ensures c.width.ensures) ∙ c.loop-owner.invariant
