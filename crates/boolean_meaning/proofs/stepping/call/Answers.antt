use Rattle.std.proofs.Common.{◌≡◌, ℕ, true, ◌+◌, List, ◌∷◌, ◌++◌, refl, sym, ap, ap₂, ◌∙◌, subst}
use Rattle.std.specs.Prelude.{Option, Some, slice_get, option_map}
use Rattle.std.proofs.lemmas.Option.{slice_get-map}
use Rattle.boolean_programs.specs.declared.program.Proc.{Proc}
use Rattle.boolean_meaning.proofs.PlaceLemmas.{get_is}
use Rattle.boolean_programs.specs.declared.point.Point.{Point}
use Rattle.boolean_programs.specs.declared.statement.Choice.{Choice}
use Rattle.boolean_programs.specs.Programs.{Procedure, procedure_of, program_of}
use Rattle.boolean_programs.specs.Lines.{first_line}
use Rattle.boolean_machine.specs.Machine.{at_line}
use Rattle.boolean_machine.specs.Picks.{listed, picked, stars}
use Rattle.boolean_meaning.specs.declared.state.Frame.{Frame}
use Rattle.boolean_meaning.specs.declared.state.State.{State}
use Rattle.boolean_meaning.specs.Bits.{bit_of, number_of}
use Rattle.boolean_meaning.specs.private.Outcomes.{IsOutcome, bit_in, entry_bits}
use Rattle.boolean_meaning.proofs.stepping.call.Goals as goal

pub returns-clause-ok : goal.returns-clause-ok
returns-clause-ok c =
    let q = c.in-Some.owner.now in
    let s = c.args.state.now in
    let old = bit_in c.args.old.now in
    let free = bit_of c.args.bits in
    let found = c.in-Some.ensures.lookup in
    let item : slice_get c.args.program.now.procs c.args.callee ≡ Some q =
    ap (λ (qs : List Proc). slice_get qs c.args.callee) (sym c.as_slice.ensures) ∙ get_is c.as_slice.result.now c.args.callee q found.3.0 found.1 in
    let there : slice_get (program_of c.args.program.now).procs c.args.callee ≡ Some (procedure_of q) =
    slice_get-map procedure_of c.args.program.now.procs c.args.callee
    ∙ ap (option_map procedure_of) item in
    let point : c.at_line.result ≡ at_line (first_line q.body) = c.at_line.ensures ∙ ap at_line (c.first_line.ensures ∙ ap first_line c.as_slice-3.ensures) in
    let locals : c.in_ok-locals.locals ≡ number_of (entry_bits (procedure_of q) c.args.arguments.now old free) =
    c.in_ok-locals.ensures ∙ ap₂ (λ (vs : List Choice) (k : ℕ). number_of (picked old free 0 vs ++ listed k (λ j. free (stars vs + j)))) c.as_slice-2.ensures c.len.ensures in
    let frames = c.in_ok-push.ensures.ok ∙ ap₂ (λ (x : Point) (l : ℕ). let f : Frame = record { point = x; locals = l } in f ∷ s.frames) point locals in
    let F : Procedure → State = λ r. record { globals = s.globals; frames = record { point = at_line (first_line r.body); locals = number_of (entry_bits r c.args.arguments.now old free) } ∷ s.frames } in
    let state : State = record { globals = s.globals; frames = c.push.new.self } in
    let P : Option Procedure → Type 0 = λ o. IsOutcome (option_map F o) s true state in
    subst P (sym there) (refl, ap (λ (fs : List Frame). let t : State = record { globals = s.globals; frames = fs } in t) frames)
