-- How two reports agree, by either direction and any number of workers.
use Rattle.std.specs.Prelude.{◌≡◌, ◌⊎◌, ℕ, ◌+◌, List, [], ◌∷◌, ◌++◌, codes}
use Rattle.boolean_programs.specs.declared.point.Point.{Point}
use Rattle.document_forms.specs.Documents.{Document}
use Rattle.document_forms.specs.declared.document.QueryLine.{QueryLine}
use Rattle.document_systems.specs.Kinds.{Kind}
use Rattle.report_text.specs.Listings.{query_line}
use Rattle.wpds_app.specs.Reports.{ByDocument}

-- Both texts are a part for each query, one after the other, numbered from here on, and this holds of each number, query and
-- two parts.
abbrev pub ByBoth : {Q : Type 0} → (ℕ → Q → List ℕ → List ℕ → Type 0) → ℕ → List Q → List ℕ → List ℕ → Type 0
ByBoth holds i [] one other = (one ≡ []) × (other ≡ [])
ByBoth holds i (q ∷ qs) one other =
    (part : List ℕ) × (rest : List ℕ) × (one ≡ part ++ rest)
    × (its : List ℕ) × (more : List ℕ) × (other ≡ its ++ more)
    × holds i q part its × ByBoth holds (i + 1) qs rest more

abbrev pub BeginsWith : List ℕ → List ℕ → Type 0
BeginsWith line text = (rest : List ℕ) × (text ≡ line ++ rest)

-- ---- documents

-- Both texts of a query begin with the line of one value.
pub record TellOneValueOver {S W Map : Type 0} (kind : Kind S W Map) (semiring : S) (d : Document) (i : ℕ) (one other : List ℕ) : Type 0 where
  pub value : W
  pub first : BeginsWith (query_line i (kind.written semiring d.items value)) one
  pub second : BeginsWith (query_line i (kind.written semiring d.items value)) other

-- over the semiring that the document names
abbrev pub TellOneValue : Document → ℕ → QueryLine → List ℕ → List ℕ → Type 0
TellOneValue d i q one other =
    ByDocument (λ S W Map kind semiring. TellOneValueOver kind semiring d i one other) d

-- ---- programs

-- Of a point both texts begin with `reachable`, or both are `unreachable`.
abbrev pub TellOneVerdict : ℕ → Point → List ℕ → List ℕ → Type 0
TellOneVerdict i point one other =
    (BeginsWith (query_line i (codes "reachable")) one × BeginsWith (query_line i (codes "reachable")) other)
    ⊎ ((one ≡ query_line i (codes "unreachable")) × (other ≡ query_line i (codes "unreachable")))
