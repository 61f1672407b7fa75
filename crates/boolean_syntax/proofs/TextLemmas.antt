-- The header of a text, and its lines behind it.
use Rattle.std.proofs.Common.{◌≡◌, ◌≤◌, ℕ, ◌+◌, Bool, true, false, not, List, ◌∷◌, length, map, Option, None, Some, sym, ap, ap₂, ◌∙◌, arith}
use Rattle.std.specs.Prelude.{nat_lt, Result, Ok, Err}
use Rattle.std.proofs.lemmas.Bool.{false_from_ne_true, ltb-true}
use Rattle.wpds_base.specs.Faults.{first_fault}
use Rattle.wpds_base.specs.Limits.{most_bytes}
use Rattle.wpds_port.specs.declared.Kind.{Kind}
use Rattle.wpds_port.specs.declared.Kind.TheVariants.{TooLong}
use Rattle.wpds_port.specs.declared.Refusal.{Refusal}
use Rattle.wpds_port.specs.Refusals.{refusal}
use Rattle.document_forms.specs.FirstRefusal.{is_short}
use Rattle.document_forms.specs.Lines.{lines}
use Rattle.document_reader.specs.LinesLeft.{Left}
use Rattle.boolean_programs.specs.declared.point.Point.{Point}
use Rattle.boolean_programs.specs.declared.program.Proc.{Proc}
use Rattle.boolean_programs.specs.declared.program.Program.{Program}
use Rattle.program_forms.specs.Places.{Said, said, Stated, judged_from, at_top, stated}
use Rattle.program_forms.specs.Declared.{whole}
use Rattle.program_forms.specs.FirstRefusal.{said_lines, header_conditions, body_refusal, body, lines_refusal}
use Rattle.program_forms.specs.Programs.{program_of, read_as}
use Rattle.boolean_syntax.specs.declared.reading.Reading.{Reading}
use Rattle.boolean_syntax.specs.private.Found.{stated_lines, found_in, IsBehindHeader}
use Rattle.boolean_syntax.specs.private.Readings.{HasRead, program_now}

-- with what is found, by the kind of the header
by_header : ℕ → Said → List Said → Option Kind → Option Refusal
by_header after h ls o = elim o [ Some k ↦ Some (refusal h.number k) | None ↦ body_refusal after (whole (stated (judged_from at_top ls))) (judged_from at_top ls) ]

pub header_refused : (after : ℕ) (bytes : List ℕ) (h : Said) (ls : List Said) (k : Kind) → said_lines bytes ≡ h ∷ ls
    → first_fault (header_conditions h) ≡ Some k → lines_refusal after (said_lines bytes) ≡ Some (refusal h.number k)
unfolding by_header
header_refused after bytes h ls k e f = ap (lines_refusal after) e ∙ ap (by_header after h ls) f

by_length : List ℕ → Bool → Option Refusal
by_length bytes b = elim b [ false ↦ Some (refusal 0 TooLong) | true ↦ lines_refusal (length (lines bytes) + 1) (said_lines bytes) ]

by_refusal : List Said → Option Refusal → Result Program Refusal
by_refusal ls o = elim o [ Some r ↦ Err r | None ↦ Ok (program_of (stated (body ls))) ]

short : (bytes : List ℕ) → length bytes ≤ most_bytes → is_short bytes ≡ true
short bytes h = ap not (false_from_ne_true (nat_lt most_bytes (length bytes)) (λ e. let l = ltb-true most_bytes (length bytes) e in absurd (omega arith)))

-- a text without a refusal is the program of the lines behind its header
pub is_program : (bytes : List ℕ) (rest : Left) → length bytes ≤ most_bytes → IsBehindHeader bytes rest → found_in rest.after rest.lines ≡ None
    → read_as bytes ≡ Ok (program_of (stated_lines rest.lines))
unfolding by_header by_length by_refusal
is_program bytes rest few p found =
    let ls = map said rest.lines in
    let after = length (lines bytes) + 1 in
    ap (by_refusal (said_lines bytes)) (ap (by_length bytes) (short bytes few) ∙ ap (lines_refusal after) p.split ∙ ap (by_header after p.header ls) p.kind
    ∙ ap (λ n. found_in n rest.lines) (sym p.after) ∙ found)
    ∙ ap (λ k. Ok (program_of (stated (body k)))) p.split

-- and one with a refusal in its lines is refused so
pub is_refused : (bytes : List ℕ) (rest : Left) (r : Refusal) → length bytes ≤ most_bytes → IsBehindHeader bytes rest
    → found_in rest.after rest.lines ≡ Some r → read_as bytes ≡ Err r
unfolding by_header by_length by_refusal
is_refused bytes rest r few p found =
    let ls = map said rest.lines in
    let after = length (lines bytes) + 1 in
    ap (by_refusal (said_lines bytes)) (ap (by_length bytes) (short bytes few) ∙ ap (lines_refusal after) p.split ∙ ap (by_header after p.header ls) p.kind
    ∙ ap (λ n. found_in n rest.lines) (sym p.after) ∙ found)

pub same_program : (ls : List Stated) (names : List (List ℕ)) (r : Reading) → names ≡ (whole ls).globals → HasRead (whole ls) ls r
    → program_now names r ≡ program_of ls
same_program ls names r g h = ap₂ (λ gs (q : List Proc × List Point). record { globals = gs; procs = q.0; queries = q.1 }) g (ap₂ (λ ps qs. (ps, qs)) h.procs h.queries)
