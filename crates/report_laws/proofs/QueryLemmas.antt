-- What the text of a query tells.
use Rattle.std.proofs.Common.{◌≡◌, inl, inr, ℕ, ◌≤◌, min, Bool, true, false, List, [], ◌∷◌, ◌++◌, map, Option, Some, None, refl, sym, ap, subst, ◌∙◌, append-nil, append_assoc, decimal, arith}
use Rattle.std.specs.Prelude.{codes, nat_eq, nat_le, IsTrue, if◌then◌else◌}
use Rattle.std.specs.List.{AllByRecursion}
use Rattle.std.proofs.lemmas.List.{append_cancel_left}
use Rattle.std.proofs.lemmas.Bool.{cases_lt, eqb-true, eq-eqb}
use Rattle.std.proofs.lemmas.Bool.Decides.{nat_tests}
use Rattle.semiring_laws.specs.declared.reach.NoMap.{NoMap}
use Rattle.semiring_laws.specs.Semiring.{Fits, Below}
use Rattle.semiring_laws.specs.Combination.{combination}
use Rattle.cost_weights.specs.Cost.{cost_operations}
use Rattle.pushdown_rules.specs.Pushdown.{Pushdown}
use Rattle.pushdown_rules.specs.Values.{value_of}
use Rattle.pushdown_rules.specs.Answers.{Answers, Leads, HasNoFeasibleRun}
use Rattle.config_patterns.specs.Membership.{PatternValue, has_member}
use Rattle.witness_graph.specs.declared.listing.Listing.{Listing}
use Rattle.document_systems.specs.Weights.{cost_text}
use Rattle.report_text.specs.Listings.{query_line}
use Rattle.report_text.specs.declared.options.Options.{Options}
use Rattle.report_text.specs.Reports.{shown, shown_runs, below, query_text}
use Rattle.report_laws.specs.Telling.{IsCheapest, TellsCost}

-- ---- a line tells its value

-- no line feed
abbrev IsClean : List ℕ → Type 0
IsClean [] = Unit {0}
IsClean (y ∷ u) = (nat_eq 10 y ≡ false) × IsClean u

not_empty : (w rest : List ℕ) → w ++ 10 ∷ rest ≡ [] → ⊥
not_empty [] rest e = cc
not_empty (x ∷ w) rest e = cc

cut : (w u rest : List ℕ) → IsClean u → w ++ 10 ∷ rest ≡ u ++ 10 ∷ [] → w ≡ u
cut [] [] rest clean e = refl
cut [] (y ∷ u) rest clean e = let first : 10 ≡ y = cc in let is : nat_eq 10 y ≡ true = eq-eqb 10 y first in let f : true ≡ false = sym is ∙ clean.0 in cc
cut (x ∷ w) [] rest clean e = let f : w ++ 10 ∷ rest ≡ [] = cc in absurd (not_empty w rest f)
cut (x ∷ w) (y ∷ u) rest clean e =
    let first : x ≡ y = cc in
    let more : w ++ 10 ∷ rest ≡ u ++ 10 ∷ [] = cc in
    ap (λ z. z ∷ w) first ∙ ap (λ l. y ∷ l) (cut w u rest clean.1 more)

-- what stands before the value
abbrev front : ℕ → List ℕ
front i = codes "query " ++ decimal i ++ codes ": "

spread : (i : ℕ) (w rest : List ℕ) → query_line i w ++ rest ≡ front i ++ (w ++ 10 ∷ rest)
spread i w rest = append_assoc (front i ++ w) (10 ∷ []) rest ∙ append_assoc (front i) w (10 ∷ rest)

pub same_line : (i : ℕ) (w u rest : List ℕ) → IsClean u → query_line i w ++ rest ≡ query_line i u → w ≡ u
same_line i w u rest clean e =
    let whole : front i ++ (w ++ 10 ∷ rest) ≡ front i ++ (u ++ 10 ∷ []) = sym (spread i w rest) ∙ e ∙ append_assoc (front i) u (10 ∷ []) in
    cut w u rest clean (append_cancel_left (front i) (w ++ 10 ∷ rest) (u ++ 10 ∷ []) whole)

pub clean_unreachable : IsClean (codes "unreachable")
clean_unreachable = (refl, (refl, (refl, (refl, (refl, (refl, (refl, (refl, (refl, (refl, (refl, tt)))))))))))

pub told_unreachable : (i : ℕ) (options : Options) (w text : List ℕ) (listing : Option Listing) → text ≡ query_text i options w listing → text ≡ query_line i (codes "unreachable") → w ≡ codes "unreachable"
told_unreachable i options w text listing told e = same_line i w (codes "unreachable") (below options listing) clean_unreachable (sym told ∙ e)

pub unlisted_line : (i : ℕ) (options : Options) (w : List ℕ) (listing : Option Listing) → listing ≡ None → query_text i options w listing ≡ query_line i w
unlisted_line i options w listing none = ap (λ l. query_line i w ++ below options l) none ∙ go options.brief options.traces
  where
    go : (brief traces : Bool) → query_line i w ++ ((if brief then [] else shown None) ++ (if traces then shown_runs None else [])) ≡ query_line i w
    go true true = append-nil (query_line i w)
    go true false = append-nil (query_line i w)
    go false true = append-nil (query_line i w)
    go false false = append-nil (query_line i w)

-- ---- costs

module _ (p : Pushdown ℕ (Option ℕ) NoMap) (from to : PatternValue) where
  abbrev leads : List ℕ → Type 0
  leads = Leads (cost_operations p.semiring) p (has_member from) (has_member to)

  abbrev cost : List ℕ → Option ℕ
  cost = value_of (cost_operations p.semiring) p

  abbrev Attains : ℕ → Type 0
  Attains n = (run : List ℕ) × leads run × (cost run ≡ Some n)

  -- of finitely many runs one has the least cost
  attained : (xs : List (List ℕ)) (n : ℕ) → AllByRecursion leads xs → combination (cost_operations p.semiring) (map cost xs) ≡ Some n → Attains n
  attained [] n lead e = cc
  attained (x ∷ xs) n lead e = go (λ f. attained xs n lead.1 f) (cost x) refl (combination (cost_operations p.semiring) (map cost xs)) refl e
    where
      go : (combination (cost_operations p.semiring) (map cost xs) ≡ Some n → Attains n) → (a : Option ℕ) → cost x ≡ a → (b : Option ℕ) → combination (cost_operations p.semiring) (map cost xs) ≡ b
          → (cost_operations p.semiring).combine (cost x) (combination (cost_operations p.semiring) (map cost xs)) ≡ Some n → Attains n
      go more None is b is' h = more (is' ∙ sym (ap (λ o. (cost_operations p.semiring).combine o b) is) ∙ sym (ap ((cost_operations p.semiring).combine (cost x)) is') ∙ h)
      go more (Some m) is None is' h = (x, lead.0, is ∙ sym (ap (λ o. (cost_operations p.semiring).combine o None) is) ∙ sym (ap ((cost_operations p.semiring).combine (cost x)) is') ∙ h)
      go more (Some m) is (Some k) is' h =
          let least : Some (min m k) ≡ Some n = sym (ap (λ o. (cost_operations p.semiring).combine o (Some k)) is) ∙ sym (ap ((cost_operations p.semiring).combine (cost x)) is') ∙ h in
          let same : min m k ≡ n = cc in
          elim (cases_lt k m) [
            | inl less ↦ more (is' ∙ ap Some (omega (arith, same, less)))
            | inr least_first ↦ (x, lead.0, is ∙ ap Some (omega (arith, same, least_first)))
          ]

  pub cheapest : (v : Option ℕ) (runs : List (List ℕ)) (n : ℕ) → v ≡ Some n → Answers (cost_operations p.semiring) p (has_member from) (has_member to) v runs
      → ((m k : ℕ) → Below (cost_operations p.semiring) (Some m) (Some k) → m ≤ k) → IsCheapest p from to n
  cheapest v runs n is answers dearer = (
    attained runs n answers.lead (sym answers.combined ∙ is),
    λ run m lead costs.
        let low = answers.below run lead in
        let P : Option ℕ → Type 0 = λ a. Below (cost_operations p.semiring) a (cost run) in
        let Q : Option ℕ → Type 0 = Below (cost_operations p.semiring) (Some n) in
        dearer n m (subst Q costs (subst P is low)),
  )

  pub some_cost : (i n : ℕ) (options : Options) (text : List ℕ) (listing : Option Listing) → n ≤ p.semiring → IsCheapest p from to n
      → text ≡ query_text i options (cost_text p.semiring (Some n)) listing → TellsCost p i from to text
  some_cost i n options text listing low cheap told = go (nat_eq n p.semiring) refl
    where
      go : (b : Bool) → nat_eq n p.semiring ≡ b → TellsCost p i from to text
      go true is =
          let same = eqb-true n p.semiring is in
          inr (inr (
            subst (IsCheapest p from to) same cheap,
            below options listing,
            told ∙ ap (λ b. query_text i options (decimal n ++ (if b then codes " or more" else codes "")) listing) is
                ∙ ap (λ k. query_text i options (decimal k ++ codes " or more") listing) same,
          ))
      go false is =
          inr (inl (
            n,
            elim (cases_lt n p.semiring) [
              | inl less ↦ less
              | inr more ↦ (let f : true ≡ false = sym (eq-eqb n p.semiring (omega (arith, low, more))) ∙ is in cc)
            ],
            cheap,
            below options listing,
            told ∙ ap (λ b. query_text i options (decimal n ++ (if b then codes " or more" else codes "")) listing) is
                ∙ ap (λ l. query_text i options l listing) (append-nil (decimal n)),
          ))

  within : (n : ℕ) → IsTrue (nat_le n p.semiring) → n ≤ p.semiring
  within n fit = grind (arith, nat_tests)

  pub told_cost : (i : ℕ) (options : Options) (text : List ℕ) (listing : Option Listing) (v : Option ℕ) → Fits (cost_operations p.semiring) v
      → (v ≡ None → HasNoFeasibleRun (cost_operations p.semiring) p (has_member from) (has_member to)) → (v ≡ None → listing ≡ None)
      → ((n : ℕ) → v ≡ Some n → IsCheapest p from to n) → text ≡ query_text i options (cost_text p.semiring v) listing → TellsCost p i from to text
  told_cost i options text listing None fit none unlisted cheap told = inl (none refl, told ∙ unlisted_line i options (cost_text p.semiring None) listing (unlisted refl))
  told_cost i options text listing (Some n) fit none unlisted cheap told = some_cost i n options text listing (within n fit) (cheap n refl) told
