-- Lines of states.
use Rattle.std.proofs.Common.{◌≡◌, ℕ, List, [], ◌∷◌, ◌++◌, map, length, refl, sym, ap, ◌∙◌}
use Rattle.std.specs.Prelude.{Option, None, Some, slice_get}
use Rattle.std.specs.List.{flat_map}
use Rattle.boolean_programs.specs.declared.program.Program.{Program}
use Rattle.boolean_programs.specs.Programs.{program_of}
use Rattle.boolean_machine.specs.Picks.{listed}
use Rattle.boolean_meaning.specs.declared.state.Frame.{Frame as HeldFrame}
use Rattle.boolean_meaning.specs.Bits.{bit_of}
use Rattle.boolean_meaning.specs.HeldStates.{frame_of, state_of}
use Rattle.state_text.specs.States.{frame_line, state_line}

-- the line of a state with this frame on top
pub on_top : (p : Program) (globals : ℕ) (frames : List HeldFrame) (f : HeldFrame) → slice_get frames 0 ≡ Some f
    → frame_line p (listed (length p.globals) (bit_of globals)) (frame_of (program_of p) f) ≡ state_line p (state_of (program_of p) (record { globals = globals; frames = frames }))
on_top p globals [] f is = cc
on_top p globals (g ∷ gs) f is =
    let same : g ≡ f = cc in
    ap (λ h. frame_line p (listed (length p.globals) (bit_of globals)) (frame_of (program_of p) h)) (sym same)

-- texts of what stands for each
pub flat_mapped : {X Y Z : Type 0} (f : Y → List Z) (g : X → Y) (xs : List X) → flat_map (λ x. f (g x)) xs ≡ flat_map f (map g xs)
flat_mapped f g [] = refl
flat_mapped f g (x ∷ xs) = ap (λ l. f (g x) ++ l) (flat_mapped f g xs)
