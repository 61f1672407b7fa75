-- A reading of all lines, and what the definition finds line by line.
use Rattle.std.proofs.Common.{◌≡◌, ℕ, ◌≤◌, Bool, true, false, not, List, map, length, Option, Some, None, Result, Ok, Err, sym, ap, ap₂, ◌∙◌, arith}
use Rattle.std.specs.Prelude.{nat_lt, option_map}
use Rattle.std.proofs.lemmas.Bool.{false_from_ne_true, ltb-true}
use Rattle.wpds_base.specs.Limits.{most_bytes}
use Rattle.wpds_port.specs.declared.Kind.TheVariants.{TooLong}
use Rattle.wpds_port.specs.declared.Refusal.{Refusal}
use Rattle.wpds_port.specs.Refusals.{refusal}
use Rattle.document_forms.specs.Above.{Above, above_of}
use Rattle.document_forms.specs.FirstRefusal.{Counted, counted, counted_lines, all_symbols, is_short, missing, refusal_in, refusal_of}
use Rattle.document_forms.specs.declared.document.RuleLine.{RuleLine}
use Rattle.document_forms.specs.declared.document.QueryLine.{QueryLine}
use Rattle.document_forms.specs.Documents.{Document, body, document_of, read_as}
use Rattle.document_reader.specs.declared.reading.Reading.{Reading}
use Rattle.document_reader.specs.LinesLeft.{Left, left}
use Rattle.document_reader.specs.private.Readings.{HasRead, document_now}
use Rattle.document_reader.specs.private.Found.{found_first}
use Rattle.document_reader.proofs.FirstLinesLemmas.{found_at_end}

short : (bytes : List ℕ) → length bytes ≤ most_bytes → is_short bytes ≡ true
short bytes h = ap not (false_from_ne_true (nat_lt most_bytes (length bytes)) (λ e. let l = ltb-true most_bytes (length bytes) e in absurd (omega arith)))

-- what is found where all lines are left
found_in : (bytes : List ℕ) (all : ℕ) (l : Left) (o : Option Refusal) → length bytes ≤ most_bytes → all ≡ all_symbols (counted_lines bytes) → l ≡ left 1 bytes → found_first all l.after (map counted l.lines) ≡ o → refusal_of bytes ≡ o
found_in bytes all l o h s e f =
    ap by_length (short bytes h)
    ∙ ap₂ (λ n k. found_first n k.after (map counted k.lines)) (sym s) (sym e)
    ∙ f
  where
    by_length : Bool → Option Refusal
    by_length t = elim t [ false ↦ Some (refusal 0 TooLong) | true ↦ refusal_in bytes (counted_lines bytes) ]

pub refusal_found : (bytes : List ℕ) (all : ℕ) (l : Left) (r : Refusal) → length bytes ≤ most_bytes → all ≡ all_symbols (counted_lines bytes) → l ≡ left 1 bytes → found_first all l.after (map counted l.lines) ≡ Some r → refusal_of bytes ≡ Some r
refusal_found bytes all l r h s e f = found_in bytes all l (Some r) h s e f

abbrev document_with : Above → List RuleLine → List QueryLine → Document
document_with a rules queries = record {
  weights = a.weights;
  controls = a.controls;
  symbols = a.symbols;
  items = a.items;
  rules = rules;
  queries = queries;
}

document_is : (all : ℕ) (ls : List Counted) (r : Reading) → HasRead all ls r → document_now r ≡ document_of (body ls)
document_is all ls r h =
    ap (λ a. document_with a r.rules.items r.queries.items) h.above
    ∙ ap₂ (document_with (above_of (body ls))) h.rules h.queries

pub document_found :
    (bytes : List ℕ) (all : ℕ) (l : Left) (r : Reading) (d : Document)
    → length bytes ≤ most_bytes → all ≡ all_symbols (counted_lines bytes) → l ≡ left 1 bytes
    → HasRead all (map counted l.lines) r → missing (map counted l.lines) ≡ None → d ≡ document_now r
    → read_as bytes ≡ Ok d
document_found bytes all l r d h s e read whole is =
    ap by_refusal (found_in bytes all l None h s e (found_at_end all l.after (map counted l.lines) read.accepted ∙ ap (option_map (refusal l.after)) whole))
    ∙ ap (λ k. Ok (document_of (body (map counted k.lines)))) (sym e)
    ∙ ap (λ x. Ok x) (sym (is ∙ document_is all (map counted l.lines) r read))
  where
    by_refusal : Option Refusal → Result Document Refusal
    by_refusal o = elim o [ Some q ↦ Err q | None ↦ Ok (document_of (body (counted_lines bytes))) ]
