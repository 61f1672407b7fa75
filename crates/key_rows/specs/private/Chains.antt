-- How members are found: by chains of those whose keys are spread to one number.
use Rattle.std.specs.Prelude.{◌≡◌, ℕ, ◌-◌, ◌*◌, ◌/◌, ◌^◌, ◌<◌, Bool, nat_eq, min, List, [], take, length, Option, None, Some, slice_get, if◌then◌else◌}
use Rattle.key_rows.specs.declared.keyed.Cell.{Cell}
use Rattle.key_rows.specs.declared.keyed.Made.{Made}
use Rattle.key_rows.specs.Positions.{last_where}
use Rattle.std.specs.declared.cmp.Ordering.{Ordering}
use Rattle.key_rows.specs.Members.{number_of}
use Rattle.key_rows.specs.private.Links.{most_cells}

module _ {T : Type 0} where
  abbrev pub member_in : Cell T → T
  member_in c = c.member

-- for how many more cells there is room, by how many chains there are, how many cells there is room for, and how many there are
abbrev pub spare_in : ℕ → ℕ → ℕ → ℕ
spare_in chains capacity cells = if nat_eq chains 0 then 0 else min capacity most_cells - cells

module _ {K : Type 0} (spread : ℕ → K → ℕ) (round : ℕ) where
  -- which of so many chains a key is in
  abbrev pub chain_of : ℕ → K → ℕ
  chain_of count k = spread round k * count / 2 ^ 64

  -- it is the chain of a key, among so many
  pub record IsChainOf (count : ℕ) (k : K) (chain : ℕ) : Type 0 where
    pub is : chain ≡ chain_of count k
    pub within : chain < count

module _ {K T : Type 0} (key_of : T → K) (spread : ℕ → K → ℕ) (round : ℕ) where
  -- its key is in this chain
  abbrev pub is_in : ℕ → ℕ → Cell T → Bool
  is_in count chain c = nat_eq (chain_of spread round count (key_of c.member)) chain

  -- Each chain begins with its last cell, and each cell names the one before it.
  pub record AreChained (cells : List (Cell T)) (heads : List (Option ℕ)) : Type 0 where
    pub some : length heads ≡ 0 → cells ≡ []
    pub begins : (chain : ℕ) → chain < length heads → slice_get heads chain ≡ Some (last_where (is_in (length heads) chain) cells)
    pub goes_on : (i : ℕ) (c : Cell T) → slice_get cells i ≡ Some c
        → c.before ≡ last_where (is_in (length heads) (chain_of spread round (length heads) (key_of c.member))) (take i cells)

-- where a key was made, its member is found there
abbrev pub IsFoundBy : {K T : Type 0} → (K → K → Ordering) → (T → K) → List T → Option (Made K) → Type 0
IsFoundBy cmp key_of members None = Unit {0}
IsFoundBy cmp key_of members (Some made) = number_of cmp key_of made.key members ≡ Some made.number
