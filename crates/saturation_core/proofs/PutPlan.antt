-- To make the planned lowerings is to apply the changes.
use Rattle.std.proofs.Common.{◌≡◌, ℕ, suc, ◌+◌, ◌<◌, ◌≤◌, true, false, List, [], ◌∷◌, ◌++◌, length, map, get_or, drop, append_assoc, refl, sym, ap, ◌∙◌, subst, arith}
use Rattle.std.specs.Prelude.{Option, None, Some, IfSome, IsTrue, is_some, ◌||◌, cond, option_map, option_to_list}
use Rattle.std.specs.List.{AllByRecursion}
use Rattle.std.proofs.lemmas.Bool.{or_left, or_right}
use Rattle.std.proofs.lemmas.List.{length_push, at_drop_more, length-append}
use Rattle.semiring_laws.specs.Semiring.{Operations, IsSemiring, Fits}
use Rattle.weighted_automata.specs.declared.place.Place.{Place}
use Rattle.weighted_automata.specs.declared.transitions.Entry.{Entry}
use Rattle.weighted_automata.specs.Places.{same_place, has_place}
use Rattle.weighted_automata.specs.Entries.{entry_at, lowered}
use Rattle.weighted_automata.proofs.CallerLemmas.{same_place_itself}
use Rattle.witness_graph.specs.declared.node.Node.TheVariants.{Lower}
use Rattle.witness_graph.proofs.CallerLemmas.{orderly_from}
use Rattle.saturation_laws.specs.declared.job.Job.{Job}
use Rattle.saturation_core.specs.declared.plan.Planned.{Planned}
use Rattle.saturation_laws.specs.Jobs.{Tables, node_of}
use Rattle.saturation_laws.specs.States.{CoreState, Change, weight_at, lower_state, apply, apply_all, change_of, apply_jobs}
use Rattle.saturation_laws.specs.Openings.{AreKept, changed_weight}
use Rattle.saturation_core.specs.private.Plans.{change_with, changes_with, put, put_all, put_from, AreNodesFrom, goal_of, HaveRoom, lowering_of, plan_of}
use Rattle.saturation_core.specs.private.Steps.{IsFitChange}
use Rattle.saturation_core.proofs.ChangeLemmas.{kept_of, kept_lowered, kept_more, changed_fits}

pub next_and : (n m : ℕ) → suc n + m ≡ n + suc m
next_and n m = omega arith

module _ {S W Map : Type 0} where
  pub put_from-append : (n : ℕ) (ls ms : List (Planned S W Map)) (ts : List (Entry S W Map)) → put_from n (ls ++ ms) ts ≡ put_from (n + length ls) ms (put_from n ls ts)
  put_from-append n [] ms ts = let e : n ≡ n + 0 = omega arith in ap (λ k. put_from k ms ts) e
  put_from-append n (l ∷ ls) ms ts =
      put_from-append (suc n) ls ms (lowered l.goal l.weight n ts) ∙ ap (λ k. put_from k ms (put_from (suc n) ls (lowered l.goal l.weight n ts))) (next_and n (length ls))

  pub put_all-append : (ls ms : List (Planned S W Map)) (st : CoreState S W Map) → put_all (ls ++ ms) st ≡ put_all ms (put_all ls st)
  put_all-append [] ms st = refl
  put_all-append (l ∷ ls) ms st = put_all-append ls ms (put l st)

  -- each lowering adds one node
  pub nodes_added : (ls : List (Planned S W Map)) (st : CoreState S W Map) → length (put_all ls st).nodes ≡ length st.nodes + length ls
  nodes_added [] st = omega arith
  nodes_added (l ∷ ls) st = let e : length (put l st).nodes ≡ length st.nodes + 1 = length_push st.nodes l.node in omega (arith, nodes_added ls (put l st), e)

  pub put_from_is : (ls : List (Planned S W Map)) (st : CoreState S W Map) → put_from (length st.nodes) ls st.transitions ≡ (put_all ls st).transitions
  put_from_is [] st = refl
  put_from_is (l ∷ ls) st =
      let e : suc (length st.nodes) ≡ length (put l st).nodes = omega (arith, length_push st.nodes l.node) in
      ap (λ k. put_from k ls (lowered l.goal l.weight (length st.nodes) st.transitions)) e ∙ put_from_is ls (put l st)

  pub nodes_from-append : (n : ℕ) (ls ms : List (Planned S W Map)) → AreNodesFrom n ls → AreNodesFrom (n + length ls) ms → AreNodesFrom n (ls ++ ms)
  nodes_from-append n [] ms here more = let e : n + 0 ≡ n = omega arith in let P : ℕ → Type 0 = λ k. AreNodesFrom k ms in subst P e more
  nodes_from-append n (l ∷ ls) ms here more =
      let P : ℕ → Type 0 = λ k. AreNodesFrom k ms in (here.0, nodes_from-append (suc n) ls ms here.1 (subst P (sym (next_and n (length ls))) more))

  -- the goals of a plan without its first
  pub room_first : (room : List Place) (l : Planned S W Map) (ls : List (Planned S W Map)) → HaveRoom room (l ∷ ls) → IsTrue (has_place l.goal room)
  room_first room l ls have = have l.goal (or_left (same_place l.goal l.goal) (has_place l.goal (map goal_of ls)) (same_place_itself l.goal))

  pub room_rest : (room new : List Place) (l : Planned S W Map) (ls : List (Planned S W Map)) → HaveRoom room (l ∷ ls) → ((x : Place) → IsTrue (has_place x room) → IsTrue (has_place x new)) → HaveRoom new ls
  room_rest room new l ls have keeps x named = keeps x (have x (or_right (same_place l.goal x) (has_place x (map goal_of ls)) named))

module _ {S W Map : Type 0} (s : Operations W Map) where
  -- one change
  put_one : (c : Change W) (st : CoreState S W Map) → put_all (option_to_list (lowering_of s c st.transitions)) st ≡ apply s c st
  put_one c st =
      let old = weight_at s c.goal st.transitions in
      let new = s.combine old c.weight in
      let l : W → Planned S W Map = λ w. record { goal = c.goal; weight = w; node = Lower (option_map node_of (entry_at c.goal st.transitions)) c.rule c.first c.second } in
      elim (s.same new old) as (λ b. put_all (option_to_list (option_map l (cond b None (Some new)))) st ≡ cond b st (lower_state s c new st)) [
        | true ↦ refl
        | false ↦ refl
      ]

  pub plan_is : (cs : List (Change W)) (st : CoreState S W Map) → put_all (plan_of s cs (length st.nodes) st.transitions) st ≡ apply_all s cs st
  plan_is [] st = refl
  plan_is (c ∷ cs) st =
      let ls = option_to_list (lowering_of s c st.transitions) in
      let mid = put_all ls st in
      put_all-append ls (plan_of s cs (length st.nodes + length ls) (put_from (length st.nodes) ls st.transitions)) st
      ∙ ap (λ k. put_all (plan_of s cs k (put_from (length st.nodes) ls st.transitions)) mid) (sym (nodes_added ls st))
      ∙ ap (λ ts. put_all (plan_of s cs (length mid.nodes) ts) mid) (put_from_is ls st)
      ∙ plan_is cs mid
      ∙ ap (apply_all s cs) (put_one c st)

  pub apply_jobs_is : (d : Tables S W Map) (js : List (Job S W Map)) (st : CoreState S W Map) → apply_all s (changes_with js (map d.candidate js)) st ≡ apply_jobs s d js st
  apply_jobs_is d [] st = refl
  apply_jobs_is d (j ∷ js) st = apply_jobs_is d js (apply s (change_of s d j) st)

  -- a plan begins with no lowering, and keeps what is there
  pub plan_begins : (cs : List (Change W)) (n m : ℕ) (ts : List (Entry S W Map)) (plan : List (Planned S W Map)) → plan ≡ [] → m ≡ n → AreKept s ts n
      → (plan_of s cs m ts ≡ plan ++ plan_of s cs (m + length plan) (put_from m plan ts)) × AreKept s (put_from m plan ts) (m + length plan)
  plan_begins cs n m ts plan none same kept =
      let P : List (Planned S W Map) → Type 0 = λ ps. (plan_of s cs m ts ≡ ps ++ plan_of s cs (m + length ps) (put_from m ps ts)) × AreKept s (put_from m ps ts) (m + length ps) in
      let here : m ≡ m + 0 = omega arith in
      let there : n ≡ m + 0 = omega (arith, same) in
      subst P (sym none) (ap (λ k. plan_of s cs k ts) here, subst (AreKept s ts) there kept)

  -- one job more
  module _ (js : List (Job S W Map)) (ws : List W) (i : ℕ) (within : i < length js) (long : length ws ≡ length js) (n : ℕ) (ts : List (Entry S W Map))
      (plan all : List (Planned S W Map)) (was : all ≡ plan ++ plan_of s (changes_with (drop i js) (drop i ws)) (n + length plan) (put_from n plan ts)) where
    pub plan_more : (j : Job S W Map) (w : W) (o : Option (Planned S W Map)) (new : List (Planned S W Map)) → j ≡ get_or js i j → w ≡ get_or ws i w → o ≡ lowering_of s (change_with j w) (put_from n plan ts) → new ≡ plan ++ option_to_list o
        → all ≡ new ++ plan_of s (changes_with (drop (i + 1) js) (drop (i + 1) ws)) (n + length new) (put_from n new ts)
    plan_more j w o new read read' lowers added =
        let us = put_from n plan ts in
        let m = n + length plan in
        let c = change_with j w in
        let ls = option_to_list (lowering_of s c us) in
        let cs = changes_with (drop (i + 1) js) (drop (i + 1) ws) in
        let next : changes_with (drop i js) (drop i ws) ≡ c ∷ cs =
        at_drop_more (λ xs. changes_with xs (drop i ws)) js i j within
        ∙ at_drop_more (changes_with (get_or js i j ∷ drop (i + 1) js)) ws i w (omega (arith, within, long))
        ∙ ap (λ k. change_with k (get_or ws i w) ∷ cs) (sym read) ∙ ap (λ v. change_with j v ∷ cs) (sym read') in
        let new_is : new ≡ plan ++ ls = added ∙ ap (λ p. plan ++ option_to_list p) lowers in
        let count : m + length ls ≡ n + length (plan ++ ls) = omega (arith, length-append plan ls) in
        was
        ∙ ap (λ ds. plan ++ plan_of s ds m us) next
        ∙ sym (append_assoc plan ls (plan_of s cs (m + length ls) (put_from m ls us)))
        ∙ ap (λ k. (plan ++ ls) ++ plan_of s cs k (put_from m ls us)) count
        ∙ ap (λ vs. (plan ++ ls) ++ plan_of s cs (n + length (plan ++ ls)) vs) (sym (put_from-append n plan ls ts))
        ∙ ap (λ (ps : List (Planned S W Map)). ps ++ plan_of s cs (n + length ps) (put_from n ps ts)) (sym new_is)

pub earlier_more : (m n : ℕ) → m ≤ n → (o : Option ℕ) → IfSome o (λ k. k < m) → IfSome o (λ k. k < n)
earlier_more m n le None _ = tt
earlier_more m n le (Some k) within = let h : k < m = within in omega arith

module _ {S W Map : Type 0} {s : Operations W Map} (laws : IsSemiring s) where
  -- what a change lowers keeps weights and nodes
  module _ (c : Change W) (n : ℕ) (ts : List (Entry S W Map)) (kept : AreKept s ts n) (fit : Fits s c.weight) where
    pub lowering_keeps : AreKept s (put_from n (option_to_list (lowering_of s c ts)) ts) (n + length (option_to_list (lowering_of s c ts)))
    lowering_keeps =
        let old = weight_at s c.goal ts in
        let l : W → Planned S W Map = λ w. record { goal = c.goal; weight = w; node = Lower (option_map node_of (entry_at c.goal ts)) c.rule c.first c.second } in
        elim (changed_weight s old c.weight) as (λ o. changed_weight s old c.weight ≡ o → AreKept s (put_from n (option_to_list (option_map l o)) ts) (n + length (option_to_list (option_map l o)))) [
          | None ↦ λ e. kept_more laws n (n + 0) ts ts refl (omega arith) kept
          | Some w ↦ λ e. kept_lowered laws c.goal w n n (n + 1) ts kept (changed_fits laws old c.weight w (kept_of laws c.goal ts n kept (entry_at c.goal ts) refl).0 fit e) (omega arith) (omega arith)
        ] refl

    pub lowering_node : (m : ℕ) → m ≤ n → IfSome c.first (λ k. k < m) → IfSome c.second (λ k. k < m) → IsTrue (is_some c.rule || (is_some c.first || is_some c.second)) → AreNodesFrom n (option_to_list (lowering_of s c ts))
    lowering_node m le first second part =
        let before = option_map node_of (entry_at c.goal ts) in
        let node = Lower before c.rule c.first c.second in
        let l : W → Planned S W Map = λ w. record { goal = c.goal; weight = w; node = node } in
        elim (changed_weight s (weight_at s c.goal ts) c.weight) as (λ o. AreNodesFrom n (option_to_list (option_map l o))) [
          | None ↦ tt
          | Some w ↦ (
            record {
              orderly = orderly_from n node ((kept_of laws c.goal ts n kept (entry_at c.goal ts) refl).1, earlier_more m n le c.first first, earlier_more m n le c.second second);
              part = part;
            },
            tt,
          )
        ]

  pub plan_nodes : (m : ℕ) (cs : List (Change W)) (n : ℕ) (ts : List (Entry S W Map)) → m ≤ n → AreKept s ts n → AllByRecursion (IsFitChange s m) cs → AreNodesFrom n (plan_of s cs n ts)
  plan_nodes m [] n ts le kept fit = tt
  plan_nodes m (c ∷ cs) n ts le kept fit =
      let ls = option_to_list (lowering_of s c ts) in
      nodes_from-append n ls (plan_of s cs (n + length ls) (put_from n ls ts)) (lowering_node c n ts kept fit.0.weight m le fit.0.first fit.0.second fit.0.part)
      (plan_nodes m cs (n + length ls) (put_from n ls ts) (omega (arith, le)) (lowering_keeps c n ts kept fit.0.weight) fit.1)

  -- one step more of a plan keeps weights and nodes
  pub plan_keeps : (c : Change W) (n : ℕ) (ts : List (Entry S W Map)) (plan new : List (Planned S W Map)) (o : Option (Planned S W Map)) → AreKept s (put_from n plan ts) (n + length plan) → Fits s c.weight
      → o ≡ lowering_of s c (put_from n plan ts) → new ≡ plan ++ option_to_list o → AreKept s (put_from n new ts) (n + length new)
  plan_keeps c n ts plan new o kept fit lowers added =
      let us = put_from n plan ts in
      let ls = option_to_list (lowering_of s c us) in
      let new_is : plan ++ ls ≡ new = sym (added ∙ ap (λ p. plan ++ option_to_list p) lowers) in
      let P : List (Planned S W Map) → Type 0 = λ ps. AreKept s (put_from n ps ts) (n + length ps) in
      let Q : List (Entry S W Map) → Type 0 = λ vs. AreKept s vs ((n + length plan) + length ls) in
      let R : ℕ → Type 0 = λ k. AreKept s (put_from n (plan ++ ls) ts) k in
      let count : (n + length plan) + length ls ≡ n + length (plan ++ ls) = omega (arith, length-append plan ls) in
      subst P new_is (subst R count (subst Q (sym (put_from-append n plan ls ts)) (lowering_keeps c (n + length plan) us kept fit)))
