-- A settled walk lies below each run between the two patterns, and what it makes is sound.
use Rattle.std.proofs.Common.{◌≡◌, inl, inr, ℕ, List, [], ◌∷◌, ◌++◌, refl, sym, ap, ap₂, ◌∙◌, subst}
use Rattle.std.specs.Prelude.{IsTrue, ◌&&◌, nat_eq}
use Rattle.std.proofs.lemmas.Bool.{and_parts, eq-eqb, eqb-true}
use Rattle.semiring_laws.specs.Semiring.{Operations, IsSemiring, Fits, Below}
use Rattle.semiring_laws.proofs.CallerLemmas.{below_itself, below_trans, extend_left_keeps_below, extend_right_keeps_below}
use Rattle.pushdown_rules.specs.Configuration.{Configuration, at_stack}
use Rattle.pushdown_rules.specs.Pushdown.{Pushdown, IsSystem}
use Rattle.pushdown_rules.specs.Firing.{Run}
use Rattle.pushdown_rules.specs.Splits.{Falls, Stays}
use Rattle.pushdown_rules.specs.Answers.{Leads, Answers}
use Rattle.pushdown_rules.specs.Values.{value_of}
use Rattle.pushdown_rules.proofs.CallerLemmas.{none_from_nothing, split, joined_value, run_above, run_then}
use Rattle.config_patterns.specs.declared.edge.Edge.{Edge}
use Rattle.config_patterns.specs.Edges.{edges_of, is_final_of}
use Rattle.config_patterns.specs.Membership.{PatternValue, has_member, items_match}
use Rattle.config_patterns.specs.Paths.{Reads, IsRead}
use Rattle.config_patterns.proofs.CallerLemmas.{members_read}
use Rattle.wpds_base.specs.Lists.{IsIn}
use Rattle.value_laws.specs.Runs.{Pops, Enters, Sums}
use Rattle.value_laws.specs.Settled.{Table, AreWeights}
use Rattle.value_laws.specs.Walk.{Pairs, Descends, Crosses, IsWalkSettled}
use Rattle.value_laws.proofs.RuleLemmas.{fv}
use Rattle.value_laws.proofs.EnterLemmas.{reads_parts}
use Rattle.value_laws.proofs.WorthLemmas.{reads_then}
use Rattle.value_laws.proofs.SumLemmas.{linear_left, linear_right, sums_one, sums_pairs, sums_within}

-- what a pattern reads from its beginning to a final state is a member, and the other way round
pub member_is : (t : PatternValue) (c : Configuration) → IsTrue (has_member t c) → (c.control ≡ t.control) × IsRead t.items c.stack
member_is t c is =
    let parts = and_parts (nat_eq c.control t.control) (items_match t.items c.stack) is in
    (eqb-true c.control t.control parts.0, (members_read t.items c.stack).0 parts.1)

pub is_member : (t : PatternValue) (word : List ℕ) → IsRead t.items word → IsTrue (has_member t (at_stack t.control word))
is_member t word read = ap₂ ◌&&◌ (eq-eqb t.control t.control refl) ((members_read t.items word).1 read)

module _ {S W Map : Type 0} {operations : S → Operations W Map} {p : Pushdown S W Map} (valid : IsSystem operations p) (laws : IsSemiring (operations p.semiring)) (from to : PatternValue) where
  abbrev s : Operations W Map
  s = operations p.semiring

  abbrev value : List ℕ → W
  value = value_of s p

  abbrev source : List Edge
  source = edges_of from.items

  abbrev target : List Edge
  target = edges_of to.items

  abbrev Down : ℕ → ℕ → List ℕ → Type 0
  Down state control run = Descends p from.control source state control run

  abbrev Across : ℕ → ℕ → List ℕ → Type 0
  Across state end run = Crosses p from.control source to.control target state end run

  module _ (pops enters : Table W) (fits_pops : AreWeights s pops) (fits_enters : AreWeights s enters)
      (pop_below : (run : List ℕ) (c g q : ℕ) → Pops p c g q run → Below s (pops c g q) (value run))
      (enter_below : (run : List ℕ) (c g a : ℕ) → Enters p to.control target c g a run → Below s (enters c g a) (value run))
      (down across : Pairs W) (fits_down : (i c : ℕ) → Fits s (down i c)) (fits_across : (i a : ℕ) → Fits s (across i a)) (answer : W) (fits_answer : Fits s answer)
      (settled : IsWalkSettled s from to pops enters down across down across answer) where
    -- over a word that both patterns read
    both_read : (word : List ℕ) (i j a b : ℕ) → Reads source i word j → Reads target a word b → Below s (across j b) (across i a)
    both_read [] i j a b same same' = let P : ℕ → ℕ → Type 0 = λ x y. Below s (across x y) (across i a) in
        let Q : ℕ → Type 0 = λ x. P x b in let R : ℕ → Type 0 = λ y. P i y in
        subst Q same (subst R same' (below_itself laws (across i a) (fits_across i a)))
    both_read (g ∷ word) i j a b reads reads' =
        below_trans laws (across j b) (across reads.0 reads'.0) (across i a) (fits_across j b) (fits_across reads.0 reads'.0) (fits_across i a)
        (both_read word reads.0 j reads'.0 b reads.2 reads'.2) (settled.reads i g reads.0 reads.1 a reads'.0 reads'.1)

    crosses_below : (word : List ℕ) (i j c b : ℕ) (run left : List ℕ) → Reads source i word j → Run p (at_stack c word) run (at_stack to.control left) → Reads target 0 left b
        → Below s (across j b) (s.extend (down i c) (value run))
    crosses_below [] i j c b run left same goes reads =
        let over : run ≡ [] = none_from_nothing p run (at_stack c []) (at_stack to.control left) refl goes in
        let P : List ℕ → Type 0 = λ v. Run p (at_stack c []) v (at_stack to.control left) in
        let meets : at_stack c [] ≡ at_stack to.control left = subst P over goes in
        let control : to.control ≡ c = sym (ap (λ (x : Configuration). x.control) meets) in
        let nothing : left ≡ [] = sym (ap (λ (x : Configuration). x.stack) meets) in
        let Q : List ℕ → Type 0 = λ w. Reads target 0 w b in
        let end : 0 ≡ b = subst Q nothing reads in
        let R : ℕ → Type 0 = λ x. Below s (across x b) (down i c) in
        let T : ℕ → Type 0 = λ y. Below s (across i y) (down i c) in
        let U : ℕ → Type 0 = λ z. Below s (across i 0) (down i z) in
        let V : W → Type 0 = Below s (across j b) in
        subst V (sym (ap (λ v. s.extend (down i c) (value v)) over ∙ laws.extend-one_right (down i c) (fits_down i c))) (subst R same (subst T end (subst U control (settled.meets i))))
    crosses_below (g ∷ word) i j c b run left reads goes reads' =
        let v = down i c in
        let fd = fits_down i c in
        let fr = fv valid laws run in
        let i' = reads.0 in
        elim (split p run c (g ∷ []) word (at_stack to.control left) goes) [
          | inl h ↦
              let h' : Falls p c (g ∷ []) word run (at_stack to.control left) = h in
              let q = h'.control in
              let x = value h'.first in
              let y = value h'.rest in
              let fx = fv valid laws h'.first in
              let fy = fv valid laws h'.rest in
              let fits_vx = laws.fits-extend v x fd fx in
              let fits_d = fits_down i' q in
              let e = s.extend v (pops c g q) in
              let first : Below s (down i' q) (s.extend v x) = below_trans laws (down i' q) e (s.extend v x) fits_d (laws.fits-extend v (pops c g q) fd (fits_pops c g q)) fits_vx
              (settled.falls i g i' reads.1 c q) (extend_left_keeps_below laws v (pops c g q) x fd (fits_pops c g q) fx (pop_below h'.first c g q h'.goes)) in
              let V : W → Type 0 = Below s (across j b) in
              subst V (laws.extend_assoc v x y fd fx fy ∙ ap (s.extend v) (sym (ap value h'.joins ∙ joined_value valid laws h'.first h'.rest (at_stack c (g ∷ [])) (at_stack q []) h'.goes refl)))
              (below_trans laws (across j b) (s.extend (down i' q) y) (s.extend (s.extend v x) y) (fits_across j b) (laws.fits-extend (down i' q) y fits_d fy) (laws.fits-extend (s.extend v x) y fits_vx fy)
              (crosses_below word i' j q b h'.rest left reads.2 h'.goes_on reads')
              (extend_right_keeps_below laws (down i' q) (s.extend v x) y fits_d fits_vx fy first))
          | inr h ↦
              let h' : Stays p c (g ∷ []) word run (at_stack to.control left) = h in
              let Q : List ℕ → Type 0 = λ w. Reads target 0 w b in
              let parts = reads_parts target 0 h'.word word b (subst Q h'.ends reads') in
              let a = parts.mid in
              let z = enters c g a in
              let fz = fits_enters c g a in
              below_trans laws (across j b) (across i' a) (s.extend v (value run)) (fits_across j b) (fits_across i' a) (laws.fits-extend v (value run) fd fr)
              (both_read word i' j a b reads.2 parts.reads_on)
              (below_trans laws (across i' a) (s.extend v z) (s.extend v (value run)) (fits_across i' a) (laws.fits-extend v z fd fz) (laws.fits-extend v (value run) fd fr)
              (settled.goes_in i g i' reads.1 c a)
              (extend_left_keeps_below laws v z (value run) fd fz fr (enter_below run c g a (record { word = h'.word; full = h'.full; goes = h'.goes; reads = parts.reads }))))
        ]

    pub answer_below : (run : List ℕ) → Leads s p (has_member from) (has_member to) run → Below s answer (value run)
    answer_below run leads =
        let c = leads.0 in
        let d = leads.1 in
        let here = member_is from c leads.2 in
        let end = member_is to d leads.3 in
        let i = here.1.0 in
        let a = end.1.0 in
        let P : ℕ → Type 0 = λ x. Run p (at_stack x c.stack) run (at_stack d.control d.stack) in
        let Q : ℕ → Type 0 = λ x. Run p (at_stack from.control c.stack) run (at_stack x d.stack) in
        let goes : Run p (at_stack from.control c.stack) run (at_stack to.control d.stack) = subst Q end.0 (subst P here.0 leads.4) in
        let v = down 0 from.control in
        let fd = fits_down 0 from.control in
        let fr = fv valid laws run in
        let V : W → Type 0 = Below s answer in
        subst V (laws.extend-one_left (value run) fr)
        (below_trans laws answer (across i a) (s.extend s.one (value run)) fits_answer (fits_across i a) (laws.fits-extend s.one (value run) laws.fits-one fr)
        (settled.ends i a here.1.2 end.1.2)
        (below_trans laws (across i a) (s.extend v (value run)) (s.extend s.one (value run)) (fits_across i a) (laws.fits-extend v (value run) fd fr) (laws.fits-extend s.one (value run) laws.fits-one fr)
        (crosses_below c.stack 0 i from.control a run d.stack here.1.1 goes end.1.1)
        (extend_right_keeps_below laws v s.one (value run) fd laws.fits-one fr settled.begins)))

  -- what each step of a walk makes is sound
  abbrev Sound : (List ℕ → Type 0) → W → Type 0
  Sound runs w = Sums s value runs w

  pub begin_sums : Sound (Down 0 from.control) s.one
  begin_sums = sums_one laws value (fv valid laws) (Down 0 from.control) [] (record { word = []; reads = refl; goes = refl })

  -- runs of a kind, each of which uses up a stack that is read to a state with an edge over the symbol
  module _ (Is : List ℕ → Type 0) (g j : ℕ) where
    abbrev HasEdge : ℕ → Type 0
    HasEdge c = (run : List ℕ) → Is run → (i : ℕ) × IsIn (record { from = i; symbol = g; to = j }) source × Down i c run

    pub fall_runs : (c q : ℕ) → HasEdge c → (v w : W) → Sound Is v → Sound (Pops p c g q) w → Sound (Down j q) (s.extend v w)
    fall_runs c q has v w one two =
        sums_pairs laws value (fv valid laws) Is (Pops p c g q) (Down j q) ◌++◌ s.extend (λ b fb. linear_right laws b fb) (λ a fa. linear_left laws a fa)
        (λ a b is goes.
        let (i, edge, down) = has a is in (
          record {
            word = down.word ++ g ∷ [];
            reads = reads_then source 0 down.word i g j down.reads edge;
            goes = run_then p a b (at_stack from.control (down.word ++ g ∷ [])) (at_stack c (g ∷ [])) (at_stack q [])
                (run_above p (g ∷ []) a (at_stack from.control down.word) (at_stack c []) down.goes) goes;
          },
          joined_value valid laws a b (at_stack from.control down.word) (at_stack c []) down.goes refl,
        )) v w one two

    pub enter_runs : (c e : ℕ) → HasEdge c → (v w : W) → Sound Is v → Sound (Enters p to.control target c g e) w → Sound (Across j e) (s.extend v w)
    enter_runs c e has v w one two =
        sums_pairs laws value (fv valid laws) Is (Enters p to.control target c g e) (Across j e) ◌++◌ s.extend (λ b fb. linear_right laws b fb) (λ a fa. linear_left laws a fa)
        (λ a b is enter.
        let (i, edge, down) = has a is in (
          record {
            word = down.word ++ g ∷ [];
            left = enter.word;
            reads = reads_then source 0 down.word i g j down.reads edge;
            goes = run_then p a b (at_stack from.control (down.word ++ g ∷ [])) (at_stack c (g ∷ [])) (at_stack to.control enter.word)
                (run_above p (g ∷ []) a (at_stack from.control down.word) (at_stack c []) down.goes) enter.goes;
            reads_left = enter.reads;
          },
          joined_value valid laws a b (at_stack from.control down.word) (at_stack c []) down.goes refl,
        )) v w one two

  module _ (i g j : ℕ) (edge : IsIn (record { from = i; symbol = g; to = j }) source) where
    pub fall_sums : (c q : ℕ) (v w : W) → Sound (Down i c) v → Sound (Pops p c g q) w → Sound (Down j q) (s.extend v w)
    fall_sums c q v w one two = fall_runs (Down i c) g j c q (λ run down. (i, edge, down)) v w one two

    pub enter_sums : (c a : ℕ) (v w : W) → Sound (Down i c) v → Sound (Enters p to.control target c g a) w → Sound (Across j a) (s.extend v w)
    enter_sums c e v w one two = enter_runs (Down i c) g j c e (λ run down. (i, edge, down)) v w one two

    -- a run that crosses does so over a symbol more
    pub crosses_on : (a b : ℕ) → IsIn (record { from = a; symbol = g; to = b }) target → (run : List ℕ) → Across i a run → Across j b run
    crosses_on a b edge' run is = record {
      word = is.word ++ g ∷ [];
      left = is.left ++ g ∷ [];
      reads = reads_then source 0 is.word i g j is.reads edge;
      goes = run_above p (g ∷ []) run (at_stack from.control is.word) (at_stack to.control is.left) is.goes;
      reads_left = reads_then target 0 is.left a g b is.reads_left edge';
    }

    pub read_sums : (a b : ℕ) → IsIn (record { from = a; symbol = g; to = b }) target → (w : W) → Sound (Across i a) w → Sound (Across j b) w
    read_sums a b edge' w sums = sums_within laws value (fv valid laws) (Across i a) (Across j b) (crosses_on a b edge') w sums

  pub meet_sums : (i : ℕ) (w : W) → Sound (Down i to.control) w → Sound (Across i 0) w
  meet_sums i w sums = sums_within laws value (fv valid laws) (Down i to.control) (Across i 0)
      (λ run is. record { word = is.word; left = []; reads = is.reads; goes = is.goes; reads_left = refl }) w sums

  -- a run that crosses leads from a member to a member, where both states are final
  pub crosses_lead : (i a : ℕ) → IsTrue (is_final_of from.items i) → IsTrue (is_final_of to.items a) → (run : List ℕ) → Across i a run → Leads s p (has_member from) (has_member to) run
  crosses_lead i a final final' run is = (at_stack from.control is.word, at_stack to.control is.left, is_member from is.word (i, is.reads, final), is_member to is.left (a, is.reads_left, final'), is.goes)

  pub end_sums : (i a : ℕ) → IsTrue (is_final_of from.items i) → IsTrue (is_final_of to.items a) → (w : W) → Sound (Across i a) w → Sound (Leads s p (has_member from) (has_member to)) w
  end_sums i a final final' w sums = sums_within laws value (fv valid laws) (Across i a) (Leads s p (has_member from) (has_member to)) (crosses_lead i a final final') w sums

  -- a sum of all runs is an answer
  pub sum_answers : (w : W) → (sums : Sound (Leads s p (has_member from) (has_member to)) w) → ((run : List ℕ) → Leads s p (has_member from) (has_member to) run → Below s w (value run))
      → Answers s p (has_member from) (has_member to) w sums.list
  sum_answers w sums below = record { lead = sums.each; combined = sums.weight; below = below }
