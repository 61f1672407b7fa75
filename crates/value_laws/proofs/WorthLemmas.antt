-- What a rule makes of sound weights is sound.
use Rattle.std.proofs.Common.{◌≡◌, ℕ, List, [], ◌∷◌, ◌++◌, refl, sym, ap, ◌∙◌, subst}
use Rattle.std.specs.Prelude.{Some, slice_get, unwrap_or}
use Rattle.std.proofs.lemmas.List.{append-nil}
use Rattle.semiring_laws.specs.Semiring.{Operations, IsSemiring, Fits, FitsMap}
use Rattle.pushdown_rules.specs.declared.rule.Rule.{Rule}
use Rattle.pushdown_rules.specs.Configuration.{Configuration, at_stack}
use Rattle.pushdown_rules.specs.Pushdown.{Pushdown, IsSystem}
use Rattle.pushdown_rules.specs.Firing.{Run}
use Rattle.pushdown_rules.specs.Values.{value_of}
use Rattle.pushdown_rules.proofs.CallerLemmas.{fires, run_above, run_then, weight_fits, map_fits, step_value, push_value, open_value}
use Rattle.config_patterns.specs.declared.edge.Edge.{Edge}
use Rattle.config_patterns.specs.Paths.{Reads}
use Rattle.wpds_base.specs.Lists.{IsIn}
use Rattle.value_laws.specs.Runs.{Pops, Enters, Sums}
use Rattle.value_laws.specs.Settled.{first_worth, returned_worth}
use Rattle.value_laws.proofs.RuleLemmas.{fv, pop_value, fits_inside}
use Rattle.value_laws.proofs.SumLemmas.{linear_left, linear_right, linear_after, IsLinear, sums_one, sums_map, sums_pairs}

-- one symbol more
pub reads_then : (edges : List Edge) (from : ℕ) (word : List ℕ) (mid g to : ℕ) → Reads edges from word mid → IsIn (record { from = mid; symbol = g; to = to }) edges → Reads edges from (word ++ g ∷ []) to
reads_then edges from [] mid g to same edge = let P : ℕ → Type 0 = λ m. IsIn (record { from = m; symbol = g; to = to }) edges in (to, subst P (sym same) edge, refl)
reads_then edges from (h ∷ word) mid g to reads edge = (reads.0, reads.1, reads_then edges reads.0 word mid g to reads.2 edge)

more_left : (word : List ℕ) (h : ℕ) → word ++ h ∷ [] ≡ [] → ⊥
more_left [] h e = cc
more_left (g ∷ word) h e = cc

module _ {S W Map : Type 0} {operations : S → Operations W Map} {p : Pushdown S W Map} (valid : IsSystem operations p) (laws : IsSemiring (operations p.semiring)) where
  abbrev s : Operations W Map
  s = operations p.semiring

  abbrev value : List ℕ → W
  value = value_of s p

  abbrev Sound : (List ℕ → Type 0) → W → Type 0
  Sound runs w = Sums s value runs w

  module _ (k : ℕ) (r : Rule S W Map) (there : slice_get p.rules k ≡ Some r) where
    -- a rule before a run from what it leaves
    before : (left : List ℕ) → r.right ≡ left → (run : List ℕ) (d : Configuration) → Run p (at_stack r.to left) run d → Run p (at_stack r.control (r.symbol ∷ [])) (k ∷ run) d
    before left right run d goes = (at_stack r.to left, fires p k r there [] ∙ ap (λ w. Some (at_stack r.to w)) (append-nil r.right ∙ right), goes)

    pub pop_sums : r.right ≡ [] → Sound (Pops p r.control r.symbol r.to) r.weight
    pop_sums right =
        let T : W → Type 0 = Sound (Pops p r.control r.symbol r.to) in
        subst T (pop_value valid laws k r there right)
        (sums_one laws value (fv valid laws) (Pops p r.control r.symbol r.to) (k ∷ []) (before [] right [] (at_stack r.to []) refl))

    fr : Fits s r.weight
    fr = weight_fits valid laws k r there

    module _ (g : ℕ) (right : r.right ≡ g ∷ []) where
      step_sums : (P Q : List ℕ → Type 0) → ((run : List ℕ) → P run → Q (k ∷ run)) → (w : W) → Sound P w → Sound Q (first_worth s r w)
      step_sums P Q leads w sums =
          sums_map laws value (fv valid laws) P Q (λ a. k ∷ a) (first_worth s r) (linear_left laws r.weight fr) (λ a is. (leads a is, step_value valid laws k r there g right a)) w sums

      pub step_pops : (to : ℕ) (w : W) → Sound (Pops p r.to g to) w → Sound (Pops p r.control r.symbol to) (first_worth s r w)
      step_pops to w sums = step_sums (Pops p r.to g to) (Pops p r.control r.symbol to) (λ a goes. before (g ∷ []) right a (at_stack to []) goes) w sums

      pub step_enters : (control : ℕ) (edges : List Edge) (to : ℕ) (w : W) → Sound (Enters p control edges r.to g to) w → Sound (Enters p control edges r.control r.symbol to) (first_worth s r w)
      step_enters control edges to w sums = step_sums (Enters p control edges r.to g to) (Enters p control edges r.control r.symbol to)
          (λ a is. record { word = is.word; full = is.full; goes = before (g ∷ []) right a (at_stack control is.word) is.goes; reads = is.reads }) w sums

    module _ (g h : ℕ) (right : r.right ≡ g ∷ h ∷ []) where
      abbrev m : Map
      m = unwrap_or r.map s.plain

      fm : FitsMap s m
      fm = map_fits valid laws k r there g h right

      -- a call that returns, and a run from the symbol below it
      returns : (mid : ℕ) (a b : List ℕ) (d : Configuration) → Pops p r.to g mid a → Run p (at_stack mid (h ∷ [])) b d → Run p (at_stack r.control (r.symbol ∷ [])) (k ∷ (a ++ b)) d
      returns mid a b d goes goes_on =
          before (g ∷ h ∷ []) right (a ++ b) d
          (run_then p a b (at_stack r.to (g ∷ h ∷ [])) (at_stack mid (h ∷ [])) d (run_above p (h ∷ []) a (at_stack r.to (g ∷ [])) (at_stack mid []) goes) goes_on)

      call_left : (y : W) → Fits s y → IsLinear s (λ x. returned_worth s r x y)
      call_left y fy =
          let inner = linear_after laws m r.weight fm fr in
          let outer = linear_right laws y fy in
          record {
            strict = ap (λ z. s.extend z y) inner.strict ∙ outer.strict;
            adds = λ a b fa fb. ap (λ z. s.extend z y) (inner.adds a b fa fb) ∙ outer.adds (s.after m (first_worth s r a)) (s.after m (first_worth s r b)) (fits_inside valid laws k r there g h right a fa) (fits_inside valid laws k r there g h right b fb);
          }

      call_sums : (mid : ℕ) (Q R : List ℕ → Type 0) → ((a b : List ℕ) → Pops p r.to g mid a → Q b → R (k ∷ (a ++ b))) → (v w : W) → Sound (Pops p r.to g mid) v → Sound Q w → Sound R (returned_worth s r v w)
      call_sums mid Q R leads v w one two =
          sums_pairs laws value (fv valid laws) (Pops p r.to g mid) Q R (λ a b. k ∷ (a ++ b)) (returned_worth s r) call_left
          (λ x fx. linear_left laws (s.after m (first_worth s r x)) (fits_inside valid laws k r there g h right x fx))
          (λ a b goes is. (leads a b goes is, push_value valid laws k r there g h right a b (at_stack r.to (g ∷ [])) (at_stack mid []) goes refl refl)) v w one two

      pub call_pops : (mid to : ℕ) (v w : W) → Sound (Pops p r.to g mid) v → Sound (Pops p mid h to) w → Sound (Pops p r.control r.symbol to) (returned_worth s r v w)
      call_pops mid to v w one two = call_sums mid (Pops p mid h to) (Pops p r.control r.symbol to) (λ a b goes is. returns mid a b (at_stack to []) goes is) v w one two

      module _ (control : ℕ) (edges : List Edge) where
        pub call_enters : (mid to : ℕ) (v w : W) → Sound (Pops p r.to g mid) v → Sound (Enters p control edges mid h to) w → Sound (Enters p control edges r.control r.symbol to) (returned_worth s r v w)
        call_enters mid to v w one two = call_sums mid (Enters p control edges mid h to) (Enters p control edges r.control r.symbol to)
            (λ a b goes is. record { word = is.word; full = is.full; goes = returns mid a b (at_stack control is.word) goes is.goes; reads = is.reads }) v w one two

        -- a call that stays open, over a symbol that an edge reads
        pub open_enters : (mid to : ℕ) → IsIn (record { from = mid; symbol = h; to = to }) edges → (w : W) → Sound (Enters p control edges r.to g mid) w → Sound (Enters p control edges r.control r.symbol to) (first_worth s r w)
        open_enters mid to edge w sums =
            sums_map laws value (fv valid laws) (Enters p control edges r.to g mid) (Enters p control edges r.control r.symbol to) (λ a. k ∷ a) (first_worth s r) (linear_left laws r.weight fr)
            (λ a is. (
              record {
                word = is.word ++ h ∷ [];
                full = more_left is.word h;
                goes = before (g ∷ h ∷ []) right a (at_stack control (is.word ++ h ∷ [])) (run_above p (h ∷ []) a (at_stack r.to (g ∷ [])) (at_stack control is.word) is.goes);
                reads = reads_then edges 0 is.word mid h to is.reads edge;
              },
              open_value valid laws k r there g h right a (at_stack r.to (g ∷ [])) (at_stack control is.word) is.goes refl is.full,
            )) w sums

  -- the empty run is a run of an edge from the target's control
  pub opening_sums : (control : ℕ) (edges : List Edge) (g to : ℕ) → IsIn (record { from = 0; symbol = g; to = to }) edges → Sound (Enters p control edges control g to) s.one
  opening_sums control edges g to edge =
      sums_one laws value (fv valid laws) (Enters p control edges control g to) [] (record { word = g ∷ []; full = λ e. cc; goes = refl; reads = (to, edge, refl) })
