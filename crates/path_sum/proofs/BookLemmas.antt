-- A closed book and a search that is done are finished saturations, whose sums answer queries.
use Rattle.std.proofs.Common.{◌≡◌, subst, Bool, ℕ, ◌<◌, List, [], refl}
use Rattle.std.specs.Prelude.{IsTrue}
use Rattle.semiring_laws.specs.Semiring.{Operations, IsSemiring, Fits}
use Rattle.weighted_automata.specs.declared.transitions.Entry.{Entry}
use Rattle.witness_graph.specs.declared.node.Node.{Node}
use Rattle.pushdown_rules.specs.Configuration.{Configuration}
use Rattle.pushdown_rules.specs.Pushdown.{Pushdown, IsSystem}
use Rattle.pushdown_rules.specs.Values.{value_of}
use Rattle.pushdown_rules.specs.Answers.{Answers}
use Rattle.pushdown_rules.proofs.CallerLemmas.{value_fits}
use Rattle.saturation_laws.specs.declared.opening.Opening.{Opening}
use Rattle.saturation_laws.specs.Openings.{found_so_far}
use Rattle.saturation_laws.specs.States.{CoreState, weight_at}
use Rattle.saturation_laws.specs.Books.{BookValue, IsBook, IsClosed}
use Rattle.saturation_laws.specs.Paths.{IsSaturated}
use Rattle.saturation_laws.specs.Directions.{IsConsequence}
use Rattle.saturation_laws.specs.Invariants.{LockInvariant, IsApplied}
use Rattle.saturation_laws.specs.Searches.{SearchValue, IsSearch, IsDone}
use Rattle.saturation_laws.specs.declared.job.Job.{Job}
use Rattle.saturation_laws.proofs.CallerLemmas.{entry_fits, closed_applies, search_applies}
use Rattle.path_sum.specs.Sums.{Ways, answer_place, IsGrown}
use Rattle.path_sum.specs.private.Work.{IsSummed}
use Rattle.path_sum.specs.private.Paths.{IsQuery, answer_runs}
use Rattle.path_sum.specs.Answers.{first_of, last_of}
use Rattle.path_sum.specs.Saturated.{IsSaturatedAutomaton}
use Rattle.path_sum.proofs.SumLemmas.{sum_answers}
use Rattle.saturation_laws.specs.Ways.{Way, start_of, IsLawful, HasPathSums}

module _ {S W Map D : Type 0} (operations : S → Operations W Map) (laws : (x : S) → IsSemiring (operations x)) (way : Way S W Map D)
    (direction : IsLawful operations way) where
  -- what a lock guards is a finished saturation where each consequence is applied
  applied_saturated : (p : Pushdown S W Map) (d : D) (o : Opening) (st : CoreState S W Map) → IsTrue (way.fits_opening d p o)
      → LockInvariant (operations p.semiring) (value_of (operations p.semiring) p) (way.runs d p o) (way.tables d p) (start_of operations way d p o).transitions st
      → ((j : Job S W Map) → IsConsequence (way.tables d p) st.transitions j → IsApplied (operations p.semiring) (way.tables d p) st.transitions j)
      → IsSaturatedAutomaton operations way p d o st.transitions st.nodes
  applied_saturated p d o st fits lock applied =
      let shape = lock.shape in
      record {
        fits = fits;
        sound = lock.sound;
        opened = lock.opened;
        applied = applied;
        shape = record { places = shape.places; seats = refl; queue = tt; present = λ x h. absurd h; nodes = shape.nodes; tight = shape.tight };
      }

  -- a closed book is one
  pub book_saturated : (b : BookValue S W Map D) → IsBook operations way b → IsClosed b
      → IsSaturatedAutomaton operations way b.system b.direction b.opening b.state.transitions b.state.nodes
  book_saturated b is closed =
      applied_saturated b.system b.direction b.opening b.state is.fits is.lock (closed_applies operations laws way direction b is closed)

  -- and so is a search in which nothing waits
  pub search_saturated : (v : SearchValue S W Map D) → IsSearch operations way v → IsDone v
      → IsSaturatedAutomaton operations way v.system v.direction v.opening v.state.transitions v.state.nodes
  search_saturated v is done =
      applied_saturated v.system v.direction v.opening v.state is.fits is.lock (search_applies operations laws way direction v is done)

module _ {S W Map D : Type 0} (operations : S → Operations W Map) (laws : (x : S) → IsSemiring (operations x)) (way : Way S W Map D)
    (p : Pushdown S W Map) (valid : IsSystem operations p) (d : D) (o : Opening) (ts : List (Entry S W Map)) (nodes : List Node)
    (is : IsSaturatedAutomaton operations way p d o ts nodes) where
  abbrev s : Operations W Map
  s = operations p.semiring

  value_fit : (run : List ℕ) → Fits s (value_of s p run)
  value_fit = value_fits valid (laws p.semiring)

  pub saturated : IsSaturated s (way.tables d p) (start_of operations way d p o).transitions ts
  saturated = record {
    distinct = is.shape.places;
    fit = λ t there. entry_fits (laws p.semiring) (value_of s p) value_fit (way.runs d p o) (way.tables d p).side nodes t (is.sound t there);
    opened = is.opened;
    applied = is.applied;
  }

  pub finished_answers : HasPathSums operations way d p o
      → (ways : Ways) → ways.control < p.controls → (near far : Configuration → Bool) → IsQuery p o ways near far → (st : CoreState S W Map)
      → IsGrown s (way.tables d p).side o ts nodes ways st → IsSummed s (way.tables d p).side o ts ways st.transitions
      → Answers s p (first_of (way.tables d p).side near far) (last_of (way.tables d p).side near far) (weight_at s answer_place st.transitions) (answer_runs (way.tables d p).side st)
  finished_answers sums ways control near far query st grown summed =
      sum_answers (laws p.semiring) p value_fit (way.tables d p).side o ways (way.tables d p) (start_of operations way d p o).transitions (way.runs d p o) control
      sums ts saturated nodes is.sound (found_so_far ts nodes [], refl, is.shape) near far query st grown summed

-- what holds of the parts of an automaton holds of equal parts
pub moved : {S W Map D : Type 0} (P : Pushdown S W Map → D → Opening → List (Entry S W Map) → List Node → Type 0) {p q : Pushdown S W Map} {d e : D} {o u : Opening}
    {ts us : List (Entry S W Map)} {ns ms : List Node} → p ≡ q → d ≡ e → o ≡ u → ts ≡ us → ns ≡ ms → P p d o ts ns → P q e u us ms
moved P {p} {q} {d} {e} {o} {u} {ts} {us} {ns} {ms} ps ds os tss nss at =
    subst (λ x. P x e u us ms) ps (subst (λ x. P p x u us ms) ds (subst (λ x. P p d x us ms) os (subst (λ x. P p d o x ms) tss (subst (P p d o ts) nss at))))
