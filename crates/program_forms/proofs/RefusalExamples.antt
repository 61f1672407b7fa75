-- Texts and their first refusals, each computed by the kinds of whole lines.
use Rattle.std.proofs.Common.{◌≡◌, ℕ, List, [], ◌∷◌, ◌++◌, refl, Option, Some, None}
use Rattle.std.specs.Prelude.{codes, flat_map}
use Rattle.wpds_port.specs.declared.Kind.TheVariants.{NotText, Header, Form, Twice, Unknown, NothingAsked}
use Rattle.wpds_port.specs.declared.Refusal.{Refusal}
use Rattle.wpds_port.specs.Refusals.{refusal}
use Rattle.document_forms.specs.Refused
use Rattle.program_forms.specs.FirstRefusal.{said_lines, declared_in, program_format}

-- the first refusal of lines with a line feed behind each
abbrev text : List (List ℕ) → Option Refusal
text rows =
    let bytes = flat_map (λ l. l ++ 10 ∷ []) rows in
    let ls = said_lines bytes in
    Refused.refusal_of (program_format (declared_in ls)) bytes ls

other_header : text (codes "wpds 1" ∷ codes "x" ∷ []) ≡ Some (refusal 1 Header)
other_header = refl

no_lines : text (codes "# nothing" ∷ []) ≡ Some (refusal 2 Header)
no_lines = refl

-- of the kinds 2 and 3 the lower counts
bad_byte_on_no_header : text ((codes "wpds 1" ++ 7 ∷ []) ∷ []) ≡ Some (refusal 1 NotText)
bad_byte_on_no_header = refl

-- of the kinds 5, 6 and 11
three_kinds : text (
    codes "bool 1" ∷ codes "proc main()" ∷ codes "a, a := 1" ∷ codes "end" ∷ []
    ) ≡ Some (refusal 3 Twice)
three_kinds = refl

-- Where a statement may not stand, its names do not matter.
out_of_place : text (codes "bool 1" ∷ codes "x := y" ∷ codes "proc" ∷ []) ≡ Some (refusal 2 Form)
out_of_place = refl

-- behind all lines: of the kinds 4, 6 and 10
no_end : text (codes "bool 1" ∷ codes "proc f()" ∷ []) ≡ Some (refusal 3 Form)
no_end = refl

no_main : text (codes "bool 1" ∷ codes "proc f()" ∷ codes "end" ∷ []) ≡ Some (refusal 4 Unknown)
no_main = refl

no_query : text (
    codes "bool 1" ∷ codes "proc main()" ∷ codes "end" ∷ []
    ) ≡ Some (refusal 4 NothingAsked)
no_query = refl

-- Later lines declare too.
declared_later : text (
    codes "bool 1" ∷ codes "proc main()" ∷ codes "L: g := 1" ∷ codes "end" ∷ codes "global g"
    ∷ codes "query reach L" ∷ []
    ) ≡ None
declared_later = refl
