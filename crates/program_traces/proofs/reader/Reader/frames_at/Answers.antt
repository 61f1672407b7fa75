use Rattle.std.proofs.Common.{◌≡◌, ◌<◌, ◌++◌, ◌∷◌, [], List, length, map, drop, reverse, get_or, sym, ap, ◌∙◌, arith}
use Rattle.diagram_store.specs.Meaning.{bits_of}
use Rattle.boolean_meaning.specs.HeldStates.{held_frame}
use Rattle.boolean_meaning.specs.declared.state.Frame.{Frame as HeldFrame}
use Rattle.lowering_laws.specs.States.{frame_of, point_at, waiting_of}
use Rattle.program_traces.specs.private.Readers.{program_in}
use Rattle.program_traces.proofs.FrameLemmas.{no_frames, some_frames}
use Rattle.program_traces.proofs.reader.Reader.frames_at.Goals as goal

pub returns : goal.returns
returns c =
    let p = program_in c.args.self.now in
    let stack = c.args.stack.now.stack in
    let ys = map bits_of (reverse c.args.saved.now) in
    let z = bits_of c.args.present.now in
    let some : 0 < length stack = omega arith in
    let point : c.point_at.result ≡ point_at p (get_or stack 0 0) = c.point_at.ensures ∙ ap (point_at p) c.at.ensures in
    let frame : c.frame_at.result ≡ held_frame (frame_of p (point_at p (get_or stack 0 0)) z) = c.frame_at.ensures ∙ ap (λ x. held_frame (frame_of p x z)) point in
    let first : c.push.new.self.items ≡ held_frame (frame_of p (point_at p (get_or stack 0 0)) z) ∷ [] =
    c.in_ok-push.ensures.items ∙ ap (λ (l : List HeldFrame). l ++ (c.frame_at.result ∷ [])) c.new-frames.ensures.items ∙ ap (λ (f : HeldFrame). f ∷ []) frame in
    c.in_ok-push_waiting.ensures
    ∙ ap (λ (l : List HeldFrame). l ++ map held_frame (waiting_of p (drop 1 stack) ys)) first
    ∙ sym (some_frames p stack ys z some)

pub returns-then-depth-eq0 : goal.returns-then-depth-eq0
returns-then-depth-eq0 c =
    c.new-frames.ensures.items
    ∙ sym (no_frames (program_in c.args.self.now) c.args.stack.now.stack (map bits_of (reverse c.args.saved.now)) (bits_of c.args.present.now) (omega arith))
