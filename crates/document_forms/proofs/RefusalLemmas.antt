-- The first refusal of a document, found line by line, is what it is said to be.
use Rattle.std.proofs.Common.{◌≡◌, ◌↔◌, ◌⊎◌, inl, inr, ℕ, List, Option, Some, None, refl, sym, ap, ◌∙◌}
use Rattle.std.specs.Prelude.{Result, Ok, Err}
use Rattle.wpds_port.specs.declared.Refusal.{Refusal}
use Rattle.document_forms.specs.Refused.{Format}
use Rattle.document_forms.specs.FirstRefusal.{Counted, counted_lines, all_symbols, document_format, FirstRefusal, refusal_of}
use Rattle.document_forms.specs.Documents.{Document, body, document_of, reads_as, read_as}
use Rattle.document_forms.proofs.KindLemmas.{line_rises, end_rises}
use Rattle.document_forms.proofs.RefusedLemmas.{nothing_found, first_found}

abbrev all_of : List ℕ → ℕ
all_of bytes = all_symbols (counted_lines bytes)

abbrev format_of : List ℕ → Format Counted
format_of bytes = document_format (all_of bytes)

pub first_refusal : (bytes : List ℕ) (r : Refusal) → (refusal_of bytes ≡ Some r) ↔ FirstRefusal bytes r
first_refusal bytes r = first_found (format_of bytes) (line_rises (all_of bytes)) end_rises bytes (counted_lines bytes) r

-- ---- the document

abbrev document_in : List ℕ → Document
document_in bytes = document_of (body (counted_lines bytes))

abbrev read_by : List ℕ → Option Refusal → Result Document Refusal
read_by bytes o = elim o [ Some r ↦ Err r | None ↦ Ok (document_in bytes) ]

pub document_read : (bytes : List ℕ) (d : Document) → (read_as bytes ≡ Ok d) ↔ reads_as bytes d
document_read bytes d = (go (refusal_of bytes) refl, back)
  where
    go : (o : Option Refusal) → refusal_of bytes ≡ o → read_by bytes o ≡ Ok d → reads_as bytes d
    go (Some r) e s = cc
    go None e s =
        let same : document_in bytes ≡ d = cc in
        let m = (nothing_found (format_of bytes) bytes (counted_lines bytes)).0 e in
        record { short = m.0; accepted = m.1; whole = m.2; document = sym same }

    back : reads_as bytes d → read_as bytes ≡ Ok d
    back m =
        ap (read_by bytes) ((nothing_found (format_of bytes) bytes (counted_lines bytes)).1 (m.short, m.accepted, m.whole))
        ∙ ap (λ x. Ok x) (sym m.document)

pub refusal_read : (bytes : List ℕ) (r : Refusal) → (read_as bytes ≡ Err r) ↔ FirstRefusal bytes r
refusal_read bytes r =
    (λ e. (first_refusal bytes r).0 (go (refusal_of bytes) refl e), λ m. ap (read_by bytes) ((first_refusal bytes r).1 m))
  where
    go : (o : Option Refusal) → refusal_of bytes ≡ o → read_by bytes o ≡ Err r → refusal_of bytes ≡ Some r
    go (Some q) e s = let same : q ≡ r = cc in e ∙ ap Some same
    go None e s = cc

-- ---- one of both, and not both

pub one_of_both : (bytes : List ℕ) → ((d : Document) × reads_as bytes d) ⊎ ((r : Refusal) × FirstRefusal bytes r)
one_of_both bytes = go (read_as bytes) refl
  where
    go : (x : Result Document Refusal) → read_as bytes ≡ x → ((d : Document) × reads_as bytes d) ⊎ ((r : Refusal) × FirstRefusal bytes r)
    go (Ok d) e = inl (d, (document_read bytes d).0 e)
    go (Err r) e = inr (r, (refusal_read bytes r).0 e)

pub never_both : (bytes : List ℕ) (d : Document) (r : Refusal) → reads_as bytes d → FirstRefusal bytes r → ⊥
never_both bytes d r m n = differ (sym ((document_read bytes d).1 m) ∙ (refusal_read bytes r).1 n)
  where
    differ : Ok d ≡ Err r → ⊥
    differ e = cc

pub same_document : (bytes : List ℕ) (d e : Document) → reads_as bytes d → reads_as bytes e → d ≡ e
same_document bytes d e m n = m.document ∙ sym n.document

pub same_refusal : (bytes : List ℕ) (r q : Refusal) → FirstRefusal bytes r → FirstRefusal bytes q → r ≡ q
same_refusal bytes r q m n = inner (sym ((first_refusal bytes r).1 m) ∙ (first_refusal bytes q).1 n)
  where
    inner : Some r ≡ Some q → r ≡ q
    inner e = cc
