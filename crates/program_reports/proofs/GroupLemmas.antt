-- Queries that are answered together.
use Rattle.std.proofs.Common.{◌≡◌, ℕ, ◌<◌, false, List, length, get_or, map, refl, sym, ap, subst, ◌∙◌, arith}
use Rattle.std.specs.Prelude.{All, Some, slice_get, option_map}
use Rattle.std.proofs.lemmas.Option.{slice_get-get_or, slice_get-map, slice_get_read}
use Rattle.std.proofs.lemmas.List.{length-map}
use Rattle.relation_laws.specs.Building.{Parts}
use Rattle.relation_weights.specs.Relations.{relation_operations}
use Rattle.config_patterns.specs.Membership.{PatternValue}
use Rattle.boolean_programs.specs.declared.point.Point.{Point}
use Rattle.boolean_programs.specs.Lists.{Each}
use Rattle.lowering_laws.specs.Queries.{entry_pattern, point_pattern}
use Rattle.path_sum.specs.Answers.{IsValueOf}
use Rattle.query_answers.specs.Answering.{IsAnswer, AreValues}
use Rattle.program_reports.specs.declared.asked.Asked.{Asked}
use Rattle.program_reports.specs.private.Asked.{IsValueFor, program_in}

-- what stands past the end of a list of points
abbrev pub none_there : Point
none_there = record { line = 0; failed = false }

-- what each query has, all have
pub all_of_each : {Q : Type 0} (P : Q → Type 0) (qs : List Q) → Each P qs → All P qs
all_of_each P qs each = λ k d within. each k (get_or qs k d) (slice_get-get_or qs k d within)

-- the value at the place of a point is the point's
pub value_for : (a : Asked) (points : List Point) (from : PatternValue) (ends : List PatternValue) (values : List Parts) (k : ℕ) (d : Point) (v : Parts)
    → from ≡ entry_pattern (program_in a) → ends ≡ map (point_pattern (program_in a)) points
    → AreValues relation_operations a.lowering.system a.options.by a.options.workers from ends values
    → k < length points → v ≡ get_or values k v → IsValueFor a (get_or points k d) v
value_for a points from ends values k d v from_is ends_are are within read =
    let p = program_in a in
    let system = a.lowering.system in
    let to = point_pattern p (get_or points k d) in
    let there : slice_get ends k ≡ Some to =
    ap (λ xs. slice_get xs k) ends_are ∙ slice_get-map (point_pattern p) points k ∙ ap (option_map (point_pattern p)) (slice_get-get_or points k d within) in
    let long : length values ≡ length points = are.count ∙ ap length ends_are ∙ length-map points (point_pattern p) in
    let is = are.each k to v there (slice_get_read values (length values) k v refl (omega (arith, long, within)) read) in
    subst (λ x. IsValueOf (IsAnswer relation_operations system a.options.by a.options.workers x to) v) from_is is
