-- What is read of the items of a pattern, from the left.
use Rattle.std.specs.Prelude.{◌≡◌, ℕ, ◌<◌, nat_lt, min, Bool, true, false, List, ◌∷◌, ◌++◌, length, map, flat_map, option_map}
use Rattle.std.specs.List.{list_any}
use Rattle.wpds_base.specs.Limits.{most_items}
use Rattle.wpds_port.specs.declared.Mark.TheVariants.{Colon, Star, CloseBrace}
use Rattle.wpds_port.specs.declared.Word.{Word}
use Rattle.wpds_port.specs.declared.Word.TheVariants.{Mark as Sign}
use Rattle.document_forms.specs.Names.{has_twice, has_unknown}
use Rattle.document_forms.specs.Patterns.{SetForm, ItemForm, set_words, is_set, items_of}
use Rattle.document_forms.specs.Kinds.{set_names, set_size, item_size}
use Rattle.document_forms.specs.Lawful.{set_count, item_count}
use Rattle.document_forms.specs.Documents.{set_value, item_value}
use Rattle.document_reader.specs.declared.items.SetRead.{SetRead}
use Rattle.document_reader.specs.declared.items.ItemRead.{ItemRead}
use Rattle.document_reader.specs.declared.patterns.ItemsRead.{ItemsRead}

abbrev pub begins_with_close : List Word → Bool
begins_with_close (Sign CloseBrace ∷ ws) = true
begins_with_close _ = false

abbrev pub begins_with_colon : List Word → Bool
begins_with_colon (Sign Colon ∷ ws) = true
begins_with_colon _ = false

abbrev pub begins_with_star : List Word → Bool
begins_with_star (Sign Star ∷ ws) = true
begins_with_star _ = false

-- A set is read: how large it is and what is amiss with it, and its value if its symbols are known.
pub record IsSetRead (symbols : List (List ℕ)) (s : SetForm) (r : SetRead) : Type 0 where
  pub count : (all : ℕ) → set_count all r.set ≡ set_size all s
  pub twice : r.twice ≡ has_twice (set_names s)
  pub unknown : r.unknown ≡ has_unknown symbols (set_names s)
  pub value : r.unknown ≡ false → r.set ≡ set_value symbols s

-- Words begin with a set, which is read, and these come behind it.
pub record HasSet
    (symbols : List (List ℕ)) (ws : List Word) (r : SetRead) (rest : List Word) : Type 0 where
  pub set : SetForm
  pub lawful : is_set set ≡ true
  pub front : ws ≡ set_words set ++ rest
  pub read : IsSetRead symbols set r

-- Words begin with an item, which is read: their items are this one and those of the words behind.
pub record HasItem (symbols : List (List ℕ)) (ws : List Word) (r : ItemRead) : Type 0 where
  pub item : ItemForm
  pub items : items_of ws ≡ option_map (λ is. item ∷ is) (items_of r.rest)
  pub shorter : length r.rest < length ws
  pub star : r.star ≡ item.star
  pub read : IsSetRead symbols item.set r.set

-- Items are read: whether they are too many, and what is amiss with their symbols; if they are not
-- too many also their sizes, and their values if their symbols are known.
pub record AreItemsRead
    (symbols : List (List ℕ)) (is : List ItemForm) (r : ItemsRead) : Type 0 where
  pub kept : length r.items.items ≡ min (length is) most_items
  pub long : r.long ≡ nat_lt most_items (length is)
  pub counts : r.long ≡ false
      → (all : ℕ) → map (item_count all) r.items.items ≡ map (item_size all) is
  pub twice : r.twice ≡ list_any (λ i. has_twice (set_names i.set)) is
  pub unknown : r.unknown ≡ has_unknown symbols (flat_map (λ i. set_names i.set) is)
  pub value : r.long ≡ false → r.unknown ≡ false → r.items.items ≡ map (item_value symbols) is

-- Words begin with items, which are read: their items are these and those of the words behind.
pub record HasItems
    (symbols : List (List ℕ)) (ws : List Word) (r : ItemsRead) (rest : List Word) : Type 0 where
  pub items : List ItemForm
  pub ahead : items_of ws ≡ option_map (λ is. items ++ is) (items_of rest)
  pub read : AreItemsRead symbols items r
