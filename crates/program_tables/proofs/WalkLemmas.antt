-- What lines declare, with a line more.
use Rattle.std.proofs.Common.{◌≡◌, ℕ, max, Bool, cond, List, [], ◌∷◌, ◌++◌, length, map, Some, refl, sym, ap, ◌∙◌, append_assoc, append-nil, Option, None, subst}
use Rattle.std.specs.Prelude.{option_map, is_some, unwrap_or, bytes_eq, flat_map, Ok, Err}
use Rattle.wpds_port.specs.declared.Kind.{Kind}
use Rattle.wpds_port.specs.declared.Refusal.{Refusal}
use Rattle.document_forms.specs.Lines.{Line}
use Rattle.document_forms.specs.Names.{once}
use Rattle.document_reader.proofs.CallerLemmas.{once_again}
use Rattle.program_forms.specs.Forms.{StatementForm, LineForm, GlobalForm, ProcForm, Stating}
use Rattle.program_forms.specs.Places.{Place, said, at_top, Stated, Judged, judged, judged_from, stated, place_behind, next_place}
use Rattle.program_forms.specs.Declared.{globals_on, procs_on, labels_on, ProcHead, LabelLine, is_assert, globals, procs, labels, whole, most_returns, proc_named, label_named}
use Rattle.program_tables.specs.private.Walks.{HasWalked, AreJudgedAbove}
use Rattle.program_tables.specs.Judging.{IsStated, IsRefused, AreJudged}
use Rattle.program_tables.specs.Tables.{proc_row, label_row, at_name, AreTablesOf}
use Rattle.program_tables.specs.declared.tables.ProcRow.{ProcRow}
use Rattle.program_tables.specs.declared.tables.LabelRow.{LabelRow}
use Rattle.program_tables.specs.declared.tables.Tables.{Tables}
use Rattle.program_tables.specs.declared.walk.StatedLine.{StatedLine}
use Rattle.program_tables.proofs.TableLemmas.{flat_with, flat_same, most_more, row_more}

abbrev row_with : ℕ → ℕ → ℕ → ProcRow
row_with begun count returns = record { place = begun; params = count; returns = returns }

abbrev label_with : ℕ → ℕ → Bool → LabelRow
label_with line begun asserts = record { line = line; begun = begun; asserts = asserts }

-- the row that is made of a procedure
pub same_row : (l : Stated) (begun count returns : ℕ) (ps : List (List ℕ)) → l.place.begun ≡ begun → count ≡ length ps
    → row_with begun count returns ≡ row_with l.place.begun (length ps) returns
same_row l begun count returns ps b e = ap (λ k. row_with k count returns) (sym b) ∙ ap (λ k. row_with l.place.begun k returns) e

-- the row that is made of a label
pub same_label : (l : Stated) (s : StatementForm) (line begun : ℕ) (asserts : Bool) → line ≡ l.number → l.place.begun ≡ begun → asserts ≡ is_assert s
    → label_with line begun asserts ≡ label_with l.number l.place.begun (is_assert s)
same_label l s line begun asserts n b a =
    ap (λ k. label_with k begun asserts) n ∙ ap (λ k. label_with l.number k asserts) (sym b) ∙ ap (label_with l.number l.place.begun) a

module _ (ls : List Stated) (l : Stated)
  where
    abbrev more : List Stated
    more = ls ++ l ∷ []

    abbrev globals_at : Stated → List (List ℕ)
    globals_at m = globals_on m.form

    abbrev procs_at : Stated → List ProcHead
    procs_at m = procs_on m.place.begun m.form

    abbrev labels_at : Stated → List LabelLine
    labels_at m = labels_on m m.form

    same_globals : (f : LineForm) → l.form ≡ f → globals_on f ≡ [] → globals more ≡ globals ls
    same_globals f e n = ap once (flat_same globals_at ls l (ap globals_on e ∙ n))

    same_procs : (f : LineForm) → l.form ≡ f → ((k : ℕ) → procs_on k f ≡ []) → procs more ≡ procs ls
    same_procs f e n = flat_same procs_at ls l (ap (procs_on l.place.begun) e ∙ n l.place.begun)

    same_labels : (f : LineForm) → l.form ≡ f → ((m : Stated) → labels_on m f ≡ []) → labels more ≡ labels ls
    same_labels f e n = flat_same labels_at ls l (ap (labels_on l) e ∙ n l)

    -- a line that declares nothing
    pub takes_nothing : (t : Tables) (f : LineForm) → AreTablesOf (whole ls) t → l.form ≡ f → globals_on f ≡ []
        → ((k : ℕ) → procs_on k f ≡ []) → ((m : Stated) → labels_on m f ≡ []) → AreTablesOf (whole more) t
    takes_nothing t f h e g p b = record {
      globals = h.globals ∙ sym (same_globals f e g);
      procs = λ x. h.procs x ∙ ap (λ ps. option_map proc_row (proc_named ps x)) (sym (same_procs f e p));
      labels = λ x. h.labels x ∙ ap (λ bs. option_map label_row (label_named bs x)) (sym (same_labels f e b));
      slots = h.slots ∙ ap most_returns (sym (same_procs f e p));
    }

    pub takes_globals : (old new : Tables) (xs : List (List ℕ)) → AreTablesOf (whole ls) old → l.form ≡ GlobalForm xs
        → new.globals ≡ once (old.globals ++ xs) → new.procs ≡ old.procs → new.labels ≡ old.labels → new.slots ≡ old.slots
        → AreTablesOf (whole more) new
    takes_globals old new xs h e g p b s = record {
      globals =
          g ∙ ap (λ n. once (n ++ xs)) h.globals ∙ once_again (flat_map globals_at ls) xs
          ∙ sym (ap once (flat_with globals_at ls l xs (ap globals_on e)));
      procs = λ x.
          ap (λ m. at_name m x) p ∙ h.procs x
          ∙ ap (λ ps. option_map proc_row (proc_named ps x)) (sym (same_procs (GlobalForm xs) e (λ k. refl)));
      labels = λ x.
          ap (λ m. at_name m x) b ∙ h.labels x
          ∙ ap (λ bs. option_map label_row (label_named bs x)) (sym (same_labels (GlobalForm xs) e (λ m. refl)));
      slots = s ∙ h.slots ∙ ap most_returns (sym (same_procs (GlobalForm xs) e (λ k. refl)));
    }

    pub takes_proc : (old new : Tables) (name : List ℕ) (ps : List (List ℕ)) (n : ℕ) (row kept : ProcRow)
        → AreTablesOf (whole ls) old → l.form ≡ ProcForm name ps n
        → row ≡ record { place = l.place.begun; params = length ps; returns = n }
        → kept ≡ unwrap_or (at_name old.procs name) row
        → ((f : List ℕ) → at_name new.procs f ≡ cond (bytes_eq name f) (Some kept) (at_name old.procs f))
        → new.globals ≡ old.globals → new.labels ≡ old.labels → new.slots ≡ max old.slots n
        → AreTablesOf (whole more) new
    takes_proc old new name ps n row kept h e r k m g b s =
        let head : ProcHead = record { name = name; params = ps; returns = n; place = l.place.begun } in
        let all : procs more ≡ procs ls ++ head ∷ [] = flat_with procs_at ls l (head ∷ []) (ap (procs_on l.place.begun) e) in
        record {
          globals = g ∙ h.globals ∙ sym (same_globals (ProcForm name ps n) e refl);
          procs = λ f.
              row_more (λ (p : ProcHead). p.name) proc_row (at_name old.procs) (at_name new.procs) (procs ls) head kept h.procs
              (k ∙ ap (unwrap_or (at_name old.procs name)) r) m f
              ∙ ap (λ qs. option_map proc_row (proc_named qs f)) (sym all);
          labels = λ x.
              ap (λ t. at_name t x) b ∙ h.labels x
              ∙ ap (λ bs. option_map label_row (label_named bs x)) (sym (same_labels (ProcForm name ps n) e (λ q. refl)));
          slots = s ∙ ap (λ k. max k n) h.slots ∙ sym (most_more (procs ls) head) ∙ ap most_returns (sym all);
        }

    pub takes_label : (old new : Tables) (name : List ℕ) (s : StatementForm) (row kept : LabelRow)
        → AreTablesOf (whole ls) old → l.form ≡ Stating (Some name) s
        → row ≡ record { line = l.number; begun = l.place.begun; asserts = is_assert s }
        → kept ≡ unwrap_or (at_name old.labels name) row
        → ((x : List ℕ) → at_name new.labels x ≡ cond (bytes_eq name x) (Some kept) (at_name old.labels x))
        → new.globals ≡ old.globals → new.procs ≡ old.procs → new.slots ≡ old.slots
        → AreTablesOf (whole more) new
    takes_label old new name s row kept h e r k m g p t =
        let label : LabelLine = record { name = name; line = l.number; begun = l.place.begun; asserts = is_assert s } in
        let all : labels more ≡ labels ls ++ label ∷ [] = flat_with labels_at ls l (label ∷ []) (ap (labels_on l) e) in
        record {
          globals = g ∙ h.globals ∙ sym (same_globals (Stating (Some name) s) e refl);
          procs = λ f.
              ap (λ q. at_name q f) p ∙ h.procs f
              ∙ ap (λ ps. option_map proc_row (proc_named ps f)) (sym (same_procs (Stating (Some name) s) e (λ q. refl)));
          labels = λ x.
              row_more (λ (b : LabelLine). b.name) label_row (at_name old.labels) (at_name new.labels) (labels ls) label kept h.labels
              (k ∙ ap (unwrap_or (at_name old.labels name)) r) m x
              ∙ ap (λ bs. option_map label_row (label_named bs x)) (sym all);
          slots = t ∙ h.slots ∙ ap most_returns (sym (same_procs (Stating (Some name) s) e (λ q. refl)));
        }

-- ---- the walk, with a line more

pub walk_stated : (p : Place) (l : Line) (ls : List Line) (m : Stated) → judged p (said l) ≡ Ok m
    → stated (judged_from p (map said (l ∷ ls))) ≡ m ∷ stated (judged_from (next_place p m.form) (map said ls))
walk_stated p l ls m e = ap (λ (j : Judged). stated (j ∷ judged_from (place_behind p j) (map said ls))) e

pub walk_refused : (p : Place) (l : Line) (ls : List Line) (r : ℕ × Kind) → judged p (said l) ≡ Err r
    → stated (judged_from p (map said (l ∷ ls))) ≡ stated (judged_from p (map said ls))
walk_refused p l ls r e = ap (λ (j : Judged). stated (j ∷ judged_from (place_behind p j) (map said ls))) e

-- behind a line that may stand the tables have it too
pub walked_stated : (done : List Stated) (p q : Place) (l : Line) (m : Stated) (t : Tables) → judged p (said l) ≡ Ok m
    → AreTablesOf (whole (done ++ m ∷ [])) t → q ≡ next_place p m.form → HasWalked done p q l t
walked_stated done p q l m t e h n = record {
  lines = done ++ m ∷ [];
  tables = h;
  rest = λ ls.
      ap (λ r. done ++ r) (walk_stated p l ls m e)
      ∙ sym (append_assoc done (m ∷ []) (stated (judged_from (next_place p m.form) (map said ls))))
      ∙ ap (λ r. (done ++ m ∷ []) ++ stated (judged_from r (map said ls))) (sym n);
}

-- a line that is refused changes nothing
pub walked_refused : (done : List Stated) (p : Place) (l : Line) (r : ℕ × Kind) (t : Tables) → judged p (said l) ≡ Err r
    → AreTablesOf (whole done) t → HasWalked done p p l t
walked_refused done p l r t e h =
    record { lines = done; tables = h; rest = λ ls. ap (λ k. done ++ k) (walk_refused p l ls r e) }

-- ---- what is kept of the lines

pub none_judged : (all : List Line) (p : Place) → p ≡ at_top → AreJudgedAbove all p all [] None
none_judged all p e = λ below r h. subst (λ q. AreJudged q all below r) e h

-- a line that may stand is kept, if none above was refused
pub keeps_stated : (all left : List Line) (p q : Place) (l : Line) (t : StatedLine) (old new : List StatedLine) (o n : Option Refusal)
    → IsStated p l t → q ≡ place_behind p (judged p (said l)) → new ≡ cond (is_some o) old (old ++ t ∷ []) → n ≡ o
    → AreJudgedAbove all p (l ∷ left) old o → AreJudgedAbove all q left new n
keeps_stated all left p q l t old new o n s e m k h =
    subst (λ x. AreJudgedAbove all q left new x) (sym k) (subst (λ ts. AreJudgedAbove all q left ts o) (sym m) (go o h))
  where
    go : (x : Option Refusal) → AreJudgedAbove all p (l ∷ left) old x → AreJudgedAbove all q left (cond (is_some x) old (old ++ t ∷ [])) x
    go None g = λ below r j.
        subst (λ ts. AreJudged at_top all ts r) (sym (append_assoc old (t ∷ []) below))
        (g (t ∷ below) r (s, subst (λ place. AreJudged place left below r) e j))
    go (Some r) g = g

-- the first refusal is kept
pub keeps_refused : (all left : List Line) (p q : Place) (l : Line) (r : Refusal) (old new : List StatedLine) (o n : Option Refusal)
    → IsRefused p l (Some r) → new ≡ old → n ≡ cond (is_some o) o (Some r)
    → AreJudgedAbove all p (l ∷ left) old o → AreJudgedAbove all q left new n
keeps_refused all left p q l r old new o n s m k h =
    subst (λ x. AreJudgedAbove all q left new x) (sym k) (subst (λ ts. AreJudgedAbove all q left ts (cond (is_some o) o (Some r))) (sym m) (go o h))
  where
    go : (x : Option Refusal) → AreJudgedAbove all p (l ∷ left) old x → AreJudgedAbove all q left old (cond (is_some x) x (Some r))
    go None g = subst (λ ts. AreJudged at_top all ts (Some r)) (append-nil old) (g [] (Some r) s)
    go (Some x) g = g

pub all_judged : (all left : List Line) (p : Place) (above : List StatedLine) (o : Option Refusal)
    → left ≡ [] → AreJudgedAbove all p left above o → AreJudged at_top all above o
all_judged all left p above o e h = go o (subst (λ ls. AreJudgedAbove all p ls above o) e h)
  where
    go : (x : Option Refusal) → AreJudgedAbove all p [] above x → AreJudged at_top all above x
    go None g = subst (λ ts. AreJudged at_top all ts None) (append-nil above) (g [] None (refl, refl))
    go (Some r) g = g
