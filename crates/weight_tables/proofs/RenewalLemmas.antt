-- Weights that another object keeps stand for what they stood for.
use Rattle.std.proofs.Common.{◌≡◌, ℕ, ◌<◌, zero, suc, List, [], ◌∷◌, ◌++◌, length, map, get_or, refl, sym, ap, ap₂, ◌∙◌, subst, arith}
use Rattle.std.specs.Prelude.{Option, None, Some, option_map}
use Rattle.semiring_laws.specs.Semiring.{Operations, Fits}
use Rattle.pushdown_rules.specs.Pushdown.{Pushdown}
use Rattle.weighted_automata.specs.declared.place.Place.{Place}
use Rattle.weight_tables.specs.declared.cell.Cell.{Cell}
use Rattle.weight_tables.specs.declared.layers.Layers.{Layers}
use Rattle.weight_tables.specs.declared.layers.LayerCells.{LayerCells}
use Rattle.weight_tables.specs.declared.renewal.Renewal.{Renewal}
use Rattle.weight_tables.specs.Entries.{TableEntry}
use Rattle.weight_tables.specs.Growth.{Grows}
use Rattle.weight_tables.specs.private.Cells.{cells_of, entries_in, waits_in, with_cells}
use Rattle.weight_tables.specs.private.Kept.{AllKnown, AreKnown, AreKept, valued, valued_entry, valued_layers, tables_of, worth_or}
use Rattle.weight_tables.specs.private.Renewed.{AllCellsKnown, AreMoved, AreRenewed, IsRenewal, HaveMarks, valued_cell, valued_cells, with_layer_cells}
use Rattle.std.proofs.lemmas.Option.{same_Some}
use Rattle.weight_tables.proofs.LayerLemmas.{layers_equal}

-- entries are those of their places and weights
entries_again : {W : Type 0} (es : List (TableEntry W)) → with_cells (cells_of es) es ≡ es
entries_again [] = refl
entries_again (e ∷ es) = ap (λ ds. e ∷ ds) (entries_again es)

module _ {M P W V : Type 0} {pushdown : M → P} {Knows : M → W → Type 0} {worth : M → W → V} where
  pub grows_itself : (m : M) → Grows pushdown Knows worth m m
  grows_itself m = record { system = refl; known = λ w k. k; stays = λ w k. refl }

  pub grows_then : (a b c : M) → Grows pushdown Knows worth a b → Grows pushdown Knows worth b c → Grows pushdown Knows worth a c
  grows_then a b c one two = record {
    system = two.system ∙ one.system;
    known = λ w k. two.known w (one.known w k);
    stays = λ w k. two.stays w (one.known w k) ∙ one.stays w k;
  }

  -- what was moved stays so while more is
  module _ (before : W → V) (old new : M) (grows : Grows pushdown Knows worth old new) where
    cells_grown : (cs : List (Cell W)) → AllCellsKnown (Knows old) cs → AllCellsKnown (Knows new) cs
    cells_grown [] all = tt
    cells_grown (c ∷ cs) all = (grows.known c.weight all.0, cells_grown cs all.1)

    cells_worth : (cs : List (Cell W)) → AllCellsKnown (Knows old) cs → valued_cells (worth new) cs ≡ valued_cells (worth old) cs
    cells_worth [] all = refl
    cells_worth (c ∷ cs) all =
        ap (λ v. let d : Cell V = record { weight = v; waits = c.waits } in d ∷ valued_cells (worth new) cs) (grows.stays c.weight all.0)
        ∙ ap (λ ds. valued_cell (worth old) c ∷ ds) (cells_worth cs all.1)

    pub moved_grown : (cs cs' : List (Cell W)) → AreMoved (Knows old) before (worth old) cs cs' → AreMoved (Knows new) before (worth new) cs cs'
    moved_grown cs cs' are = record {
      known = cells_grown cs' are.known;
      worth = cells_worth cs' are.known ∙ are.worth;
    }

-- the same weights
pub moved_same : {W V : Type 0} (Known : W → Type 0) (before after : W → V) (cs ds cs' : List (Cell W)) → cs ≡ ds → AreMoved Known before after cs cs' → AreMoved Known before after ds cs'
moved_same Known before after cs ds cs' same are = subst (λ es. AreMoved Known before after es cs') same are

-- one more
module _ {W V : Type 0} (Known : W → Type 0) (before after : W → V) where
  pub none_moved : (cs' : List (Cell W)) → cs' ≡ [] → AreMoved Known before after [] cs'
  none_moved cs' none = subst (λ ds. AreMoved Known before after [] ds) (sym none) (record { known = tt; worth = refl })

  known_last : (cs : List (Cell W)) (c : Cell W) → AllCellsKnown Known cs → Known c.weight → AllCellsKnown Known (cs ++ c ∷ [])
  known_last [] c all one = (one, tt)
  known_last (d ∷ cs) c all one = (all.0, known_last cs c all.1 one)

  worth_last : (f : W → V) (cs : List (Cell W)) (c : Cell W) → valued_cells f (cs ++ c ∷ []) ≡ valued_cells f cs ++ valued_cell f c ∷ []
  worth_last f [] c = refl
  worth_last f (d ∷ cs) c = ap (λ ds. valued_cell f d ∷ ds) (worth_last f cs c)

  moved_more : (cs cs' : List (Cell W)) (c c' : Cell W) → AreMoved Known before after cs cs' → Known c'.weight → valued_cell after c' ≡ valued_cell before c
      → AreMoved Known before after (cs ++ c ∷ []) (cs' ++ c' ∷ [])
  moved_more cs cs' c c' are known same = record {
    known = known_last cs' c' are.known known;
    worth = worth_last after cs' c' ∙ ap₂ (λ ds d. ds ++ d ∷ []) are.worth same ∙ sym (worth_last before cs c);
  }

  pub moved_next : (cs cs' : List (Cell W)) (c c' : Cell W) → AreMoved Known before after cs cs' → Known c'.weight → valued_cell after c' ≡ valued_cell before c
      → (ds ds' : List (Cell W)) → ds ≡ cs ++ c ∷ [] → ds' ≡ cs' ++ c' ∷ [] → AreMoved Known before after ds ds'
  moved_next cs cs' c c' are known same ds ds' one two =
      subst (λ es. AreMoved Known before after es ds') (sym one) (subst (AreMoved Known before after (cs ++ c ∷ [])) (sym two) (moved_more cs cs' c c' are known same))

-- each of several is known
pub known_in : {W : Type 0} (Known : W → Type 0) (cs : List (Cell W)) (k : ℕ) (d : Cell W) → AllCellsKnown Known cs → k < length cs → Known (get_or cs k d).weight
known_in Known [] k d all within = absurd (let no : k < 0 = within in omega (arith, no))
known_in Known (c ∷ cs) zero d all within = all.0
known_in Known (c ∷ cs) (suc k) d all within = known_in Known cs k d all.1 (let less : suc k < suc (length cs) = within in omega (arith, less))

-- What is known of entries is known of their weights.
pub cells_known : {W : Type 0} (Known : W → Type 0) (es : List (TableEntry W)) → AllKnown Known es → AllCellsKnown Known (cells_of es)
cells_known Known [] all = tt
cells_known Known (e ∷ es) all = (all.0, cells_known Known es all.1)

entries_known : {W : Type 0} (Known : W → Type 0) (ps : List Place) (cs : List (Cell W)) → AllCellsKnown Known cs → AllKnown Known (entries_in ps cs)
entries_known Known [] cs all = tt
entries_known Known (p ∷ ps) [] all = tt
entries_known Known (p ∷ ps) (c ∷ cs) all = (all.0, entries_known Known ps cs all.1)

module _ {W V : Type 0} (f : W → V) where
  valued_entries : (ps : List Place) (cs : List (Cell W)) → valued f (entries_in ps cs) ≡ entries_in ps (valued_cells f cs)
  valued_entries [] cs = refl
  valued_entries (p ∷ ps) [] = refl
  valued_entries (p ∷ ps) (c ∷ cs) = ap (λ es. valued_entry f (record { place = p; weight = c.weight; waits = c.waits }) ∷ es) (valued_entries ps cs)

  valued_waits : (cs : List (Cell W)) → waits_in (valued_cells f cs) ≡ waits_in cs
  valued_waits [] = refl
  valued_waits (c ∷ cs) = ap (λ bs. c.waits ∷ bs) (valued_waits cs)

-- Lists that were moved one after the other.
module _ {M P W V : Type 0} {pushdown : M → P} {Knows : M → W → Type 0} {worth : M → W → V} (before : W → V) (ls : Layers W) (a b c : M) where
  pub layers_moved : (target : Grows pushdown Knows worth a b) (walk : Grows pushdown Knows worth b c) (new : LayerCells W)
      → AreMoved (Knows a) before (worth a) (cells_of ls.base) new.base.items → AreMoved (Knows b) before (worth b) (cells_of ls.target) new.target.items
      → AreMoved (Knows c) before (worth c) (cells_of ls.walk) new.walk.items → AreRenewed (Knows c) before (worth c) ls new
  layers_moved target walk new one two three = record {
    base = moved_grown before a c (grows_then a b c target walk) (cells_of ls.base) new.base.items one;
    target = moved_grown before b c walk (cells_of ls.target) new.target.items two;
    walk = three;
  }

-- The entries with the new weights.
module _ {W V : Type 0} (Known : W → Type 0) (before after : W → V) where
  module _ (es : List (TableEntry W)) (cs : List (Cell W)) (are : AreMoved Known before after (cells_of es) cs) where
    moved_marks : waits_in cs ≡ waits_in (cells_of es)
    moved_marks = sym (valued_waits after cs) ∙ ap waits_in are.worth ∙ valued_waits before (cells_of es)

    moved_known : AllKnown Known (with_cells cs es)
    moved_known = entries_known Known (map (λ (e : TableEntry W). e.place) es) cs are.known

    moved_worth : valued after (with_cells cs es) ≡ valued before es
    moved_worth =
        let ps : List Place = map (λ (e : TableEntry W). e.place) es in
        valued_entries after ps cs ∙ ap (entries_in ps) are.worth ∙ sym (valued_entries before ps (cells_of es)) ∙ ap (valued before) (entries_again es)

  module _ (ls : Layers W) (new : LayerCells W) (are : AreRenewed Known before after ls new) where
    pub renewed_marks : HaveMarks ls new
    renewed_marks = record {
      base = moved_marks ls.base new.base.items are.base;
      target = moved_marks ls.target new.target.items are.target;
      walk = moved_marks ls.walk new.walk.items are.walk;
    }

    pub renewed_known : AreKnown Known (with_layer_cells new ls)
    renewed_known = record {
      base = moved_known ls.base new.base.items are.base;
      target = moved_known ls.target new.target.items are.target;
      walk = moved_known ls.walk new.walk.items are.walk;
    }

    pub renewed_worth : valued_layers after (with_layer_cells new ls) ≡ valued_layers before ls
    renewed_worth = layers_equal (valued_layers after (with_layer_cells new ls)) (valued_layers before ls)
        (moved_worth ls.base new.base.items are.base) (moved_worth ls.target new.target.items are.target) (moved_worth ls.walk new.walk.items are.walk)

worth_moved : {W V : Type 0} (nothing : V) (f g : W → V) (o o' : Option W) → option_map g o' ≡ option_map f o → worth_or nothing g o' ≡ worth_or nothing f o
worth_moved nothing f g None None same = refl
worth_moved nothing f g None (Some w) same = cc
worth_moved nothing f g (Some w) None same = cc
worth_moved nothing f g (Some w) (Some w') same = same_Some (g w') (f w) same

-- The tables with another object, and the weights as it keeps them.
module _ {M W P V : Type 0} {pushdown : M → P} {Knows : M → W → Type 0} {worth : M → W → V} (m : M) (hand : Option W) (ls : Layers W) (new : Renewal M W) (is : IsRenewal pushdown Knows worth m hand ls new) where
  pub kept_renewed : (p : P) → AreKept pushdown Knows p m hand ls → (now : Layers W) → now ≡ with_layer_cells new.cells ls → AreKept pushdown Knows p new.weigher new.hand now
  kept_renewed p kept now same = record {
    system = is.system ∙ kept.system;
    held = is.held;
    layers = subst (AreKnown (Knows new.weigher)) (sym same) (renewed_known (Knows new.weigher) (worth m) (worth new.weigher) ls new.cells is.layers);
  }

  pub seen_renewed : {S Map : Type 0} (p : Pushdown S V Map) (nothing : V) (now : Layers W) → now ≡ with_layer_cells new.cells ls
      → tables_of p (worth_or nothing (worth new.weigher) new.hand) (valued_layers (worth new.weigher) now) ≡ tables_of p (worth_or nothing (worth m) hand) (valued_layers (worth m) ls)
  seen_renewed p nothing now same =
      ap₂ (tables_of p) (worth_moved nothing (worth m) (worth new.weigher) hand new.hand is.same)
      (ap (valued_layers (worth new.weigher)) same ∙ renewed_worth (Knows new.weigher) (worth m) (worth new.weigher) ls new.cells is.layers)

-- What fits the semiring of a system fits that of the same system.
pub fits_there : {S V Map : Type 0} (operations : S → Operations V Map) (p q : Pushdown S V Map) → p ≡ q → (v w : V) → v ≡ w → Fits (operations q.semiring) w → Fits (operations p.semiring) v
fits_there operations p q same v w equal fits = subst (λ r. Fits (operations r.semiring) v) (sym same) (subst (Fits (operations q.semiring)) (sym equal) fits)
