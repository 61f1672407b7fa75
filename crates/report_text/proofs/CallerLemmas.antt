-- Texts of a part for each query, for crates above.
use Rattle.std.proofs.Common.{◌≡◌, ℕ, ◌+◌, List, [], ◌∷◌, ◌++◌, length, refl, sym, ap, ap₂, subst, ◌∙◌, append-nil, append_assoc, arith}
use Rattle.std.specs.Prelude.{Option, if◌then◌else◌}
use Rattle.report_text.specs.Listings.{query_line}
use Rattle.report_text.specs.Reports.{ByQuery, IsBrief, shown, shown_runs, traced, query_text}
use Rattle.report_text.specs.declared.options.Options.{Options}
use Rattle.witness_graph.specs.declared.listing.Listing.{Listing}

-- what follows of each part follows of the text
pub of_each : {Query : Type 0} {P Q : ℕ → Query → List ℕ → Type 0} → ((i : ℕ) (q : Query) (part : List ℕ) → P i q part → Q i q part)
    → (i : ℕ) (qs : List Query) (text : List ℕ) → ByQuery P i qs text → ByQuery Q i qs text
of_each follows i [] text is = is
of_each follows i (q ∷ qs) text is = (is.0, is.1, is.2, follows i q is.0 is.3, of_each follows (i + 1) qs is.1 is.4)

-- one query more
pub one_more : {Query : Type 0} (P : ℕ → Query → List ℕ → Type 0) (i : ℕ) (qs : List Query) (text : List ℕ) (q : Query) (part : List ℕ)
    → ByQuery P i qs text → P (i + length qs) q part → ByQuery P i (qs ++ q ∷ []) (text ++ part)
one_more P i [] text q part is holds =
    let same : i + 0 ≡ i = omega arith in
    (part, [], ap (λ t. t ++ part) is ∙ sym (append-nil part), subst (λ k. P k q part) same holds, refl)
one_more P i (r ∷ qs) text q part is holds =
    let count : i + length (r ∷ qs) ≡ (i + 1) + length qs = omega arith in (
      is.0,
      is.1 ++ part,
      ap (λ t. t ++ part) is.2 ∙ append_assoc is.0 is.1 part,
      is.3,
      one_more P (i + 1) qs is.1 q part is.4 (subst (λ k. P k q part) count holds),
    )

-- texts of which each part of the one is that of the other are the same
pub same_parts : {Query : Type 0} {holds says : ℕ → Query → List ℕ → Type 0} → ((i : ℕ) (q : Query) (t u : List ℕ) → holds i q t → says i q u → t ≡ u) → (i : ℕ) (qs : List Query) (text other : List ℕ)
    → ByQuery holds i qs text → ByQuery says i qs other → text ≡ other
same_parts same i [] text other h k = h ∙ sym k
same_parts same i (q ∷ qs) text other (part, rest, is, here, later) (part', rest', is', here', later') =
    is ∙ ap₂ (λ x y. x ++ y) (same i q part part' here here') (same_parts same (i + 1) qs rest rest' later later') ∙ sym is'

-- without listings the text of a query has its value alone
pub brief_text : (i : ℕ) (options : Options) (value : List ℕ) (listing : Option Listing) → IsBrief options → query_text i options value listing ≡ query_line i value ++ []
brief_text i options value listing is =
    ap (λ b. query_line i value ++ ((if b then [] else shown listing) ++ traced options listing)) is.0
    ∙ ap (λ b. query_line i value ++ (if b then shown_runs listing else [])) is.1
