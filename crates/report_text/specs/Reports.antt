-- How the answers to queries are laid out in a report.
use Rattle.std.specs.Prelude.{◌≡◌, ℕ, ◌+◌, false, IsTrue, List, [], ◌∷◌, ◌++◌, Option, None, Some, if◌then◌else◌}
use Rattle.wpds_base.specs.Limits.{most_traced}
use Rattle.witness_graph.specs.declared.listing.Listing.{Listing}
use Rattle.report_text.specs.declared.options.Options.{Options}
use Rattle.report_text.specs.Listings.{query_line, listing_text}
use Rattle.report_text.specs.Traces.{traces_text}

-- The text is a part for each query, one after the other, numbered from here on, and this holds of each number, query and part.
abbrev pub ByQuery : {Q : Type 0} → (ℕ → Q → List ℕ → Type 0) → ℕ → List Q → List ℕ → Type 0
ByQuery holds i [] text = text ≡ []
ByQuery holds i (q ∷ qs) text = (part : List ℕ) × (rest : List ℕ) × (text ≡ part ++ rest) × holds i q part × ByQuery holds (i + 1) qs rest

-- values alone are written
abbrev pub IsBrief : Options → Type 0
IsBrief options = IsTrue options.brief × (options.traces ≡ false)

-- the lines of a listing, if there is one
abbrev pub shown : Option Listing → List ℕ
shown None = []
shown (Some l) = listing_text l.side l.nodes

-- the lines of its runs
abbrev pub shown_runs : Option Listing → List ℕ
shown_runs None = []
shown_runs (Some l) = traces_text most_traced l

-- the listing unless it is left out
abbrev pub listed : Options → Option Listing → List ℕ
listed options listing = if options.brief then [] else shown listing

-- the runs where they are asked for
abbrev pub traced : Options → Option Listing → List ℕ
traced options listing = if options.traces then shown_runs listing else []

-- what stands below the line of a query over a system
abbrev pub below : Options → Option Listing → List ℕ
below options listing = listed options listing ++ traced options listing

-- the lines of a query over a system: its value, and what stands below
abbrev pub query_text : ℕ → Options → List ℕ → Option Listing → List ℕ
query_text i options value listing = query_line i value ++ below options listing
