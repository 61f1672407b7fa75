-- Systems whose right sides may have more than two symbols, and the short systems that stand for them.
use Rattle.std.specs.Prelude.{◌≡◌, ◌↔◌, ℕ, ◌+◌, ◌<◌, ◌≤◌, List, [], ◌∷◌, ◌++◌, length, map, slice_get, All, Option, None, Some, IfSome, IsSome}
use Rattle.std.specs.List.{filter_map, AllByRecursion}
use Rattle.wpds_base.specs.Limits.{longest_right, most_controls, most_symbols, most_rules}
use Rattle.semiring_laws.specs.Semiring.{Operations, Fits, FitsMap}
use Rattle.pushdown_rules.specs.declared.rule.Rule.{Rule}
use Rattle.pushdown_rules.specs.Configuration.{Configuration}
use Rattle.pushdown_rules.specs.Pushdown.{Pushdown}

-- A system over its declared symbols, and how many fresh symbols may stand behind them in the short system.
pub record Wide (S W Map : Type 0) : Type 0 where
  pub system : Pushdown S W Map
  pub fresh : ℕ

-- A rule of the short system, and the number of the rule of which it is the first.
pub record ShortRule (S W Map : Type 0) : Type 0 where
  pub rule : Rule S W Map
  pub origin : Option ℕ

-- how many fresh symbols a right side takes: one for each symbol beyond two
abbrev pub extra : List ℕ → ℕ
extra [] = 0
extra (g ∷ []) = 0
extra (g ∷ h ∷ gs) = length gs

module _ {S W Map : Type 0} where
  abbrev pub extras : List (Rule S W Map) → ℕ
  extras [] = 0
  extras (r ∷ rs) = extra r.right + extras rs

  -- every symbol of the stack is declared
  abbrev pub IsDeclared : Wide S W Map → Configuration → Type 0
  IsDeclared w c = AllByRecursion (λ g. g < w.system.symbols) c.stack

module _ {S W Map : Type 0} (s : Operations W Map) where
  -- a fresh symbol gives way, at no weight, to what it stands for but for the last symbol, and this symbol
  abbrev pub gives_way : ℕ → ℕ → ℕ → ℕ → Rule S W Map
  gives_way control fresh top below = record { control = control; symbol = fresh; to = control; right = top ∷ below ∷ []; weight = s.one; map = Some s.plain }

  -- The short rules of rule number n, whose right side is what `top` stands for and then these symbols. The first one pushes the
  -- last symbol, under the last of the fresh symbols from `y` on.
  abbrev pub pushes_of : ℕ → Rule S W Map → ℕ → ℕ → List ℕ → List (ShortRule S W Map)
  pushes_of n r top y [] = []
  pushes_of n r top y (g ∷ []) = record { rule = record r { right = top ∷ g ∷ [] }; origin = Some n } ∷ []
  pushes_of n r top y (g ∷ h ∷ gs) = pushes_of n r y (y + 1) (h ∷ gs) ++ record { rule = gives_way r.to y top g; origin = None } ∷ []

  -- the short rules of one rule
  abbrev pub short_by : ℕ → Rule S W Map → ℕ → List ℕ → List (ShortRule S W Map)
  short_by n r y [] = record { rule = r; origin = Some n } ∷ []
  short_by n r y (g ∷ []) = record { rule = r; origin = Some n } ∷ []
  short_by n r y (g ∷ h ∷ gs) = pushes_of n r g y (h ∷ gs)

  -- those of rules that are numbered from n on, with fresh symbols from y on
  abbrev pub shorts : ℕ → ℕ → List (Rule S W Map) → List (ShortRule S W Map)
  shorts n y [] = []
  shorts n y (r ∷ rs) = short_by n r y r.right ++ shorts (n + 1) (y + extra r.right) rs

  abbrev pub shorts_of : Wide S W Map → List (ShortRule S W Map)
  shorts_of w = shorts 0 w.system.symbols w.system.rules

  -- the short system
  abbrev pub short_of : Wide S W Map → Pushdown S W Map
  short_of w = record {
    semiring = w.system.semiring;
    controls = w.system.controls;
    symbols = w.system.symbols + w.fresh;
    rules = map (λ x. x.rule) (shorts_of w);
  }

  -- the rule of which a short rule is the first
  abbrev pub origin_of : Wide S W Map → ℕ → Option ℕ
  origin_of w k = elim (slice_get (shorts_of w) k) [ None ↦ None | Some x ↦ x.origin ]

  -- a run of the short system, with each rule replaced by its origin, and without those that have none
  abbrev pub origins : Wide S W Map → List ℕ → List ℕ
  origins w run = filter_map (origin_of w) run

  -- A rule over declared symbols. A push has a return map, and a longer one has the plain map.
  pub record IsWideRule (controls symbols : ℕ) (r : Rule S W Map) : Type 0 where
    pub control : r.control < controls
    pub symbol : r.symbol < symbols
    pub to : r.to < controls
    pub right : All (λ g. g < symbols) r.right
    pub short : length r.right ≤ longest_right
    pub weight : Fits s r.weight
    pub map : IfSome r.map (FitsMap s)
    pub pushes : IsSome r.map ↔ (2 ≤ length r.right)
    pub plain : 2 < length r.right → r.map ≡ Some s.plain

-- A system whose rules are over its declared symbols, and whose short system is within the limits.
pub record IsWide {S W Map : Type 0} (operations : S → Operations W Map) (w : Wide S W Map) : Type 0 where
  pub few_controls : w.system.controls ≤ most_controls
  pub few_symbols : w.system.symbols + w.fresh ≤ most_symbols
  pub few : length (shorts_of (operations w.system.semiring) w) ≤ most_rules
  pub enough : extras w.system.rules ≤ w.fresh
  pub rules : All (IsWideRule (operations w.system.semiring) w.system.controls w.system.symbols) w.system.rules
