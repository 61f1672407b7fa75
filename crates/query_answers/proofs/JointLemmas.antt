-- The values of queries backwards over a book that several workers close, which began with several patterns.
use Rattle.std.proofs.Common.{◌≡◌, ◌↔◌, ℕ, zero, suc, ◌+◌, ◌<◌, ◌≤◌, List, [], ◌∷◌, ◌++◌, IsTrue, length, refl, sym, ap, ◌∙◌, subst, arith}
use Rattle.std.specs.Prelude.{All, Some, nat_eq, slice_get}
use Rattle.std.specs.List.{AllByRecursion}
use Rattle.std.proofs.lemmas.List.Elements.{All-from_recursion, recursion_from_All}
use Rattle.std.proofs.lemmas.Bool.{and_parts, eqb-true}
use Rattle.std.proofs.lemmas.Option.{same_Some}
use Rattle.semiring_laws.specs.Semiring.{Operations, IsSemiring}
use Rattle.pushdown_rules.specs.Answers.{Answers}
use Rattle.pushdown_rules.specs.Configuration.{Configuration}
use Rattle.pushdown_rules.specs.Pushdown.{Pushdown}
use Rattle.config_patterns.specs.Membership.{PatternValue, has_member, items_match}
use Rattle.pattern_openings.specs.JointOpenings.{joint_edges, joint_finals, edges_alone, AreBefore}
use Rattle.pattern_openings.specs.PatternOpenings.{IsOver}
use Rattle.path_sum.specs.Answers.{AnswersOpening}
use Rattle.path_sum.specs.Saturated.{IsSaturatedAutomaton}
use Rattle.path_sum.specs.Values.{with_finals, IsSaturatedTo, IsValueTo, AreValuesTo}
use Rattle.prestar.specs.declared.pre.Pre.{Pre}
use Rattle.weighted_automata.specs.declared.place.Place.{Place}
use Rattle.weighted_automata.specs.declared.transitions.Entry.{Entry}
use Rattle.witness_graph.specs.declared.node.Node.{Node}
use Rattle.witness_graph.specs.declared.node.Side.TheVariants.{Pre as Backward}
use Rattle.prestar_laws.specs.Ways.{pre_way}
use Rattle.prestar_laws.proofs.CallerLemmas.{pre_laws}
use Rattle.saturation_laws.specs.Books.{BookValue, IsBook, IsClosed}
use Rattle.saturation_laws.specs.declared.opening.Opening.{Opening}
use Rattle.saturation_laws.specs.Paths.{IsOpened}
use Rattle.saturation_laws.specs.Ways.{Way}
use Rattle.saturation_laws.proofs.CallerLemmas.{closed_applies}
use Rattle.walk_pairs.specs.Answering.{IsAnswered}
use Rattle.query_answers.specs.private.Answered.{AreAnswered}
use Rattle.query_answers.proofs.AnsweredLemmas.{all_answered}

-- a pattern's members are what an opening reads, where it reads them at each control
members_are_read : (pattern : PatternValue) (o : Opening) (controls : ℕ) → pattern.control < controls
    → ((d : Configuration) → d.control < controls → IsOpened o d ↔ IsTrue (has_member pattern d))
    → (d : Configuration) → IsTrue (has_member pattern d) ↔ (IsOpened o d × (d.control < controls))
members_are_read pattern o controls below law d = (there, λ both. (law d both.1).0 both.0)
  where
    there : IsTrue (has_member pattern d) → IsOpened o d × (d.control < controls)
    there e =
        let same = eqb-true d.control pattern.control (and_parts (nat_eq d.control pattern.control) (items_match pattern.items d.stack) e).0 in
        let within = subst (λ k. k < controls) (sym same) below in
        ((law d within).1 e, within)

abbrev pub LaterOpeningsRead : Type 0
LaterOpeningsRead = (edges : List Place) (patterns : List PatternValue) (controls first : ℕ) → controls ≤ first → AreBefore controls first edges
    → All (λ (d : PatternValue). d.control < controls) patterns
    → (k : ℕ) (d : PatternValue) (finals : List ℕ) → slice_get patterns k ≡ Some d → slice_get (joint_finals first patterns) k ≡ Some finals
    → (c : Configuration) → c.control < controls → IsOpened (record { edges = edges ++ joint_edges first patterns; finals = finals }) c ↔ IsTrue (has_member d c)

-- ---- the book that workers close

module _ {S W Map : Type 0} (operations : S → Operations W Map) (laws : (x : S) → IsSemiring (operations x)) (b : BookValue S W Map Pre)
    (is : IsBook operations (pre_way operations) b) (closed : IsClosed b) where
  -- a closed book is a finished saturation whatever the final states
  pub book_saturated_to : (finals : List ℕ) → IsSaturatedTo operations (pre_way operations) b.system b.direction b.opening b.state.transitions b.state.nodes finals
  book_saturated_to finals =
      let shape = is.lock.shape in
      record {
        fits = is.fits;
        sound = is.lock.sound;
        opened = is.lock.opened;
        applied = closed_applies operations laws (pre_way operations) (λ d p o valid fits. pre_laws valid (laws p.semiring) o fits) b is closed;
        shape = record { places = shape.places; seats = refl; queue = tt; present = λ x h. absurd h; nodes = shape.nodes; tight = shape.tight };
      }

  -- and so where there are none
  pub book_saturated : b.opening.finals ≡ [] → IsSaturatedAutomaton operations (pre_way operations) b.system b.direction b.opening b.state.transitions b.state.nodes
  book_saturated none =
      subst (λ o. IsSaturatedAutomaton operations (pre_way operations) b.system b.direction o b.state.transitions b.state.nodes) (ap (with_finals b.opening) (sym none)) (book_saturated_to [])

-- what holds of the parts of an automaton holds of equal parts
pub moved : {S W Map : Type 0} (P : Pushdown S W Map → Pre → Opening → List (Entry S W Map) → List Node → Type 0) {p q : Pushdown S W Map} {d e : Pre} {o u : Opening}
    {ts us : List (Entry S W Map)} {ns ms : List Node} → p ≡ q → d ≡ e → o ≡ u → ts ≡ us → ns ≡ ms → P p d o ts ns → P q e u us ms
moved P {p} {q} {d} {e} {o} {u} {ts} {us} {ns} {ms} ps ds os tss nss at =
    subst (λ x. P x e u us ms) ps (subst (λ x. P p x u us ms) ds (subst (λ x. P p d x us ms) os (subst (λ x. P p d o x ms) tss (subst (P p d o ts) nss at))))

module _ {S W Map D : Type 0} (operations : S → Operations W Map) (way : Way S W Map D) (p : Pushdown S W Map) (d : D) (o : Opening) (pattern : PatternValue) where
  value_at : (sets : List (List ℕ)) (vs : List W) → AreValuesTo operations way p d o pattern sets vs → (k : ℕ) (v : W) → slice_get vs k ≡ Some v
      → (finals : List ℕ) × (slice_get sets k ≡ Some finals) × IsValueTo operations way p d o pattern finals v
  value_at [] [] are k v e = cc
  value_at [] (w ∷ vs) are k v e = absurd are
  value_at (f ∷ sets) [] are k v e = absurd are
  value_at (f ∷ sets) (w ∷ vs) are zero v e = (f, refl, subst (IsValueTo operations way p d o pattern f) (same_Some w v e) are.0)
  value_at (f ∷ sets) (w ∷ vs) are (suc k) v e = value_at sets vs are.1 k v e

  as_many : (sets : List (List ℕ)) (vs : List W) → AreValuesTo operations way p d o pattern sets vs → length vs ≡ length sets
  as_many [] [] are = refl
  as_many [] (w ∷ vs) are = absurd are
  as_many (f ∷ sets) [] are = absurd are
  as_many (f ∷ sets) (w ∷ vs) are = let rest = as_many sets vs are.1 in omega (arith, rest)

finals_count : (states : ℕ) (ds : List PatternValue) → length (joint_finals states ds) ≡ length ds
finals_count states [] = refl
finals_count states (d ∷ ds) = let rest = finals_count (states + length d.items) ds in omega (arith, rest)

low_at : (controls symbols : ℕ) (tos : List PatternValue) → AllByRecursion (IsOver controls symbols) tos → (k : ℕ) (to : PatternValue) → slice_get tos k ≡ Some to → to.control < controls
low_at controls symbols [] over k to e = cc
low_at controls symbols (d ∷ tos) over zero to e = subst (λ (x : PatternValue). x.control < controls) (same_Some d to e) over.0.control
low_at controls symbols (d ∷ tos) over (suc k) to e = low_at controls symbols tos over.1 k to e

-- the controls of patterns over a system are its own
each_low : (controls symbols : ℕ) (tos : List PatternValue) → AllByRecursion (IsOver controls symbols) tos → AllByRecursion (λ (d : PatternValue). d.control < controls) tos
each_low controls symbols [] over = tt
each_low controls symbols (d ∷ tos) over = (over.0.control, each_low controls symbols tos over.1)

pub tos_low : (controls symbols : ℕ) (tos : List PatternValue) → All (IsOver controls symbols) tos → All (λ (d : PatternValue). d.control < controls) tos
tos_low controls symbols tos over =
    All-from_recursion (λ (d : PatternValue). d.control < controls) tos (each_low controls symbols tos (recursion_from_All (IsOver controls symbols) tos over))

-- A walk over what began with the edges of these patterns answers the queries to them.
module _ {S W Map : Type 0} (operations : S → Operations W Map) (later : LaterOpeningsRead) (p : Pushdown S W Map) (from : PatternValue) (tos : List PatternValue) (d : Pre) (vs : List W)
    (over : All (IsOver p.controls p.symbols) tos)
    (are : AreValuesTo operations (pre_way operations) p d (edges_alone (joint_edges p.controls tos)) from (joint_finals p.controls tos) vs) where
  abbrev all : Opening
  all = edges_alone (joint_edges p.controls tos)

  abbrev sets : List (List ℕ)
  sets = joint_finals p.controls tos

  at_one : (k : ℕ) (to : PatternValue) (v : W) → slice_get tos k ≡ Some to → slice_get vs k ≡ Some v → IsAnswered (operations p.semiring) p from to v
  at_one k to v there value =
      let low = low_at p.controls p.symbols tos (recursion_from_All (IsOver p.controls p.symbols) tos over) k to there in
      let one = value_at operations (pre_way operations) p d all from sets vs are k v value in
      let finals = one.0 in
      let o : Opening = record { edges = joint_edges p.controls tos; finals = finals } in
      let s = operations p.semiring in
      let here : AnswersOpening s Backward p o (has_member from) v one.2.0 = one.2.1 in
      let reads = members_are_read to o p.controls low
      (later [] tos p.controls p.controls (omega arith) (λ x h. absurd h) (tos_low p.controls p.symbols tos over) k to finals there one.1) in
      let answers : Answers s p (has_member from) (has_member to) v one.2.0 = here (has_member to) reads in
      (one.2.0, answers)

  pub walk_answers : AreAnswered operations p from tos vs
  walk_answers = all_answered operations p from tos vs (as_many operations (pre_way operations) p d all from sets vs are ∙ finals_count p.controls tos) at_one
