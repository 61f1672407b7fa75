-- What is marked on pages.
use Rattle.std.proofs.Common.{◌≡◌, ℕ, ◌≤◌, List, ◌++◌, length, replicate, take, refl, sym, ap, ◌∙◌, inl, inr, arith}
use Rattle.std.specs.Prelude.{Option, None}
use Rattle.std.proofs.lemmas.List.{take_all, get_or_append_left, get_or-append_right, get_or-replicate, get_or_past, length-replicate}
use Rattle.std.proofs.lemmas.Bool.{cases_lt}
use Rattle.witness_graph.specs.private.Paging.{page_size, mark_at}

abbrev no_mark : Option ℕ
no_mark = None

no_marks : (n i : ℕ) → mark_at (replicate n None) i ≡ None
no_marks n i = elim (cases_lt i n) [
  | inl within ↦ get_or-replicate n i None None within
  | inr past ↦ get_or_past (replicate n None) i None (omega (arith, length-replicate n no_mark))
]

more_marks : (marks : List (Option ℕ)) (n i : ℕ) → mark_at (marks ++ replicate n None) i ≡ mark_at marks i
more_marks marks n i = elim (cases_lt i (length marks)) [
  | inl within ↦ get_or_append_left marks (replicate n None) None i within
  | inr past ↦ get_or-append_right marks (replicate n None) _ i None refl past ∙ no_marks n _ ∙ sym (get_or_past marks i None past)
]

-- marks that are made mark nothing
pub marks_made : (marks made : List (Option ℕ)) (more i : ℕ) → length marks ≤ page_size
    → made ≡ take page_size marks ++ replicate more None → mark_at made i ≡ mark_at marks i
marks_made marks made more i few is =
    ap (λ (ms : List (Option ℕ)). mark_at ms i) (is ∙ ap (λ ms. ms ++ replicate more None) (take_all page_size marks few))
    ∙ more_marks marks more i
