use Rattle.std.proofs.Common.{◌≡◌, ◌+◌, ◌-◌, ◌<◌, ◌≤◌, ◌++◌, ◌∷◌, [], length, map, reverse, get_or, sym, ap, ◌∙◌, append-nil, inl, inr, ◌⊎◌, arith}
use Rattle.std.specs.Prelude.{Some, slice_get, option_map}
use Rattle.std.proofs.lemmas.Option.{slice_get-get_or, slice_get-map}
use Rattle.std.proofs.lemmas.Bool.{cases_lt}
use Rattle.std.proofs.lemmas.List.{length-map, length-reverse}
use Rattle.diagram_store.specs.Meaning.{bits_of}
use Rattle.boolean_meaning.specs.declared.state.Frame.{Frame as HeldFrame}
use Rattle.boolean_meaning.specs.HeldStates.{held_frame}
use Rattle.lowering_laws.specs.States.{frame_of, point_at}
use Rattle.program_traces.specs.private.Readers.{program_in}
use Rattle.program_traces.proofs.FrameLemmas.{waiting_next, waiting_end}
use Rattle.program_traces.proofs.reader.Reader.push_waiting.Goals as goal

pub loop-place-preserved : goal.loop-place-preserved
loop-place-preserved c =
    let p = program_in c.args.self.now in
    let stack = c.args.stack.now.stack in
    let ys = map bits_of (reverse c.args.saved.now) in
    let i = c.loop-place.place in
    let setting = c.saved_at-setting.result.now in
    let within : i + 1 < length stack = omega arith in
    let at : slice_get stack (i + 1) ≡ Some (get_or stack (i + 1) 0) = slice_get-get_or stack (i + 1) 0 within in
    let there : slice_get ys i ≡ Some (bits_of setting) = slice_get-map bits_of (reverse c.args.saved.now) i ∙ ap (option_map bits_of) c.saved_at-setting.ensures in
    let point : c.point_at-point.result ≡ point_at p (get_or stack (i + 1) 0 - 1) =
    c.point_at-point.ensures ∙ ap (point_at p) (c.saturating_sub-in-loop-place.ensures ∙ ap (λ g. g - 1) c.at.ensures) in
    let frame : c.frame_at.result ≡ held_frame (frame_of p (point_at p (get_or stack (i + 1) 0 - 1)) (bits_of setting)) =
    c.frame_at.ensures ∙ ap (λ l. held_frame (frame_of p c.point_at-point.result (bits_of l))) c.as_slice.ensures ∙ ap (λ x. held_frame (frame_of p x (bits_of setting))) point in
    waiting_next p stack ys i (get_or stack (i + 1) 0) (bits_of setting) at there c.loop-place.frames.items c.push.new.self.items
    (c.in_ok-push.ensures.items ∙ ap (λ (f : HeldFrame). c.loop-place.frames.items ++ (f ∷ [])) frame)
    ∙ c.loop-place.invariant

pub returns : goal.returns
returns c =
    let p = program_in c.args.self.now in
    let stack = c.args.stack.now.stack in
    let ys = map bits_of (reverse c.args.saved.now) in
    let i = c.loop-place.place in
    let long : length ys ≡ length c.args.saved.now = length-map (reverse c.args.saved.now) bits_of ∙ length-reverse c.args.saved.now in
    let ended : (length ys ≤ i) ⊎ (length stack ≤ i + 1) = elim (cases_lt i (length ys)) [ inl below ↦ inr (omega arith) | inr past ↦ inl past ] in
    let end = waiting_end p stack ys i ended in
    sym (append-nil c.loop-place.frames.items) ∙ ap (λ l. c.loop-place.frames.items ++ l) (sym end) ∙ c.loop-place.invariant
