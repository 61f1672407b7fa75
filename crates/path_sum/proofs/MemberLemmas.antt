-- The automaton of a pattern reads its members.
use Rattle.std.proofs.Common.{◌≡◌, inl, inr, IsTrue, ℕ, List, [], ◌∷◌, map, ap, ◌∙◌, subst}
use Rattle.std.specs.Prelude.{◌↔◌, nat_eq}
use Rattle.std.proofs.lemmas.Bool.{and_parts, and_from, eq-eqb, eqb-true}
use Rattle.weighted_automata.specs.declared.place.Place.{Place}
use Rattle.weighted_automata.specs.declared.place.Label.{Label}
use Rattle.weighted_automata.specs.declared.place.Label.TheVariants.{Symbol, Empty}
use Rattle.config_patterns.specs.declared.edge.Edge.{Edge}
use Rattle.config_patterns.specs.Membership.{PatternValue, has_member, items_match}
use Rattle.config_patterns.specs.Edges.{edges_of}
use Rattle.config_patterns.specs.Paths as paths
use Rattle.config_patterns.proofs.CallerLemmas.{members_read}
use Rattle.pushdown_rules.specs.Configuration.{Configuration}
use Rattle.wpds_base.specs.Lists.{IsIn}
use Rattle.saturation_laws.specs.Paths.{Reads}
use Rattle.path_sum.specs.private.Paths.{HasWay}
use Rattle.path_sum.specs.Sums.{ways_of, edge_place}
use Rattle.path_sum.proofs.PlaceLemmas.{same_in}

abbrev edge : ℕ → ℕ → ℕ → Edge
edge from g to = record { from = from; symbol = g; to = to }

in_places : (e : Edge) (es : List Edge) → IsIn e es → IsIn (edge_place e) (map edge_place es)
in_places e [] h = elim h [ ]
in_places e (d ∷ ds) (inl same) = inl (ap edge_place same)
in_places e (d ∷ ds) (inr h) = inr (in_places e ds h)

abbrev symbol_in : Label → ℕ
symbol_in (Symbol g) = g
symbol_in Empty = 0

in_edges : (from g to : ℕ) (es : List Edge) → IsIn (edge_place (edge from g to)) (map edge_place es) → IsIn (edge from g to) es
in_edges from g to es h =
    let found = same_in (edge_place (edge from g to)) es h in
    let d = found.0 in
    let is : d ≡ edge from g to =
    ap (λ n. edge n d.symbol d.to) (ap (λ (x : Place). x.from) found.2)
    ∙ ap (λ n. edge from n d.to) (ap (λ (x : Place). symbol_in x.label) found.2)
    ∙ ap (edge from g) (ap (λ (x : Place). x.to) found.2) in
    subst (λ e. IsIn e es) is found.1

reads_places : (es : List Edge) (from : ℕ) (word : List ℕ) (to : ℕ) → paths.Reads es from word to → Reads (map edge_place es) from word to
reads_places es from [] to reads = reads
reads_places es from (g ∷ word) to reads = (reads.0, in_places (edge from g reads.0) es reads.1, reads_places es reads.0 word to reads.2)

reads_edges : (es : List Edge) (from : ℕ) (word : List ℕ) (to : ℕ) → Reads (map edge_place es) from word to → paths.Reads es from word to
reads_edges es from [] to reads = reads
reads_edges es from (g ∷ word) to reads = (reads.0, in_edges from g reads.0 es reads.1, reads_edges es reads.0 word to reads.2)

pub members_way : (d : PatternValue) (c : Configuration) → IsTrue (has_member d c) ↔ HasWay (ways_of d) c
members_way d c = (
  λ member.
      let both = and_parts (nat_eq c.control d.control) (items_match d.items c.stack) member in
      let read = (members_read d.items c.stack).0 both.1 in
      (eqb-true c.control d.control both.0, read.0, reads_places (edges_of d.items) 0 c.stack read.0 read.1, read.2),
  λ way. and_from (nat_eq c.control d.control) (items_match d.items c.stack) (eq-eqb c.control d.control way.0)
      ((members_read d.items c.stack).1 (way.1, reads_edges (edges_of d.items) 0 c.stack way.1 way.2, way.3)),
)
