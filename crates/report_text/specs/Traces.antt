-- How the runs of a listing are written. Rules are numbered from 1 here.
use Rattle.std.specs.Prelude.{ℕ, List, [], ◌∷◌, ◌++◌, codes}
use Rattle.std.specs.List.{flat_map, join_by}
use Rattle.witness_graph.specs.declared.listing.Listing.{Listing}
use Rattle.witness_graph.specs.Runs.{listing_runs}
use Rattle.report_text.specs.declared.expansion.Expanded.{Expanded}
use Rattle.report_text.specs.declared.expansion.Expanded.TheVariants.{Runs, TooLong}
use Rattle.report_text.specs.Expansions.{expansion}
use Rattle.report_text.specs.Listings.{rule_text}

-- its rules, with `, ` between
abbrev pub run_text : List ℕ → List ℕ
run_text [] = codes "empty"
run_text (r ∷ rs) = join_by rule_text (codes ", ") (r ∷ rs)

-- `  run: empty`, or `  run: rule R, rule R` with all rules
abbrev pub run_line : List ℕ → List ℕ
run_line run = codes "  run: " ++ run_text run ++ 10 ∷ []

-- a line for each run, in order, or one that says why there is none
abbrev pub expanded_text : Expanded → List ℕ
expanded_text (Runs runs) = flat_map run_line runs
expanded_text TooLong = codes "  traces: too long\n"

-- the lines of the runs of a listing, up to a size
abbrev pub traces_text : ℕ → Listing → List ℕ
traces_text limit listing = expanded_text (expansion limit (listing_runs listing))
