-- The kinds of lines, condition by condition.
use Rattle.std.proofs.Common.{◌≡◌, Bool, true, false, not, ◌||◌, cond, List, [], ◌∷◌, None, Some, refl, ap, ◌∙◌}
use Rattle.std.specs.Prelude.{Result, Ok, Err, IfOk}
use Rattle.std.proofs.lemmas.Bool.{or_parts, or_from}
use Rattle.wpds_base.specs.Faults.{first_fault}
use Rattle.wpds_port.specs.declared.Kind.{Kind}
use Rattle.document_forms.specs.Kinds.{Conditions}
use Rattle.program_forms.specs.Forms.{LineForm}
use Rattle.program_forms.specs.Places.{Stated}
use Rattle.program_forms.specs.Declared.{Whole}
use Rattle.program_forms.specs.Kinds.{conditions}
use Rattle.program_forms.specs.FirstRefusal.{kind_below}

pub kind_at : (w : Whole) (above : List Stated) (l : Stated) (f : LineForm) → l.form ≡ f → kind_below w above l ≡ first_fault (conditions w above l.place.begun f)
kind_at w above l f e = ap (λ g. first_fault (conditions w above l.place.begun g)) e

-- the conditions below one matter only where it does not hold
pub below : (b c : Bool) (k : Kind) (cs ds : Conditions) → b ≡ c → (c ≡ false → first_fault cs ≡ first_fault ds)
    → first_fault ((b, k) ∷ cs) ≡ first_fault ((c, k) ∷ ds)
below b c k cs ds e h = ap (λ t. cond t (Some k) (first_fault cs)) e ∙ go c h
  where
    go : (t : Bool) → (t ≡ false → first_fault cs ≡ first_fault ds) → cond t (Some k) (first_fault cs) ≡ cond t (Some k) (first_fault ds)
    go true h = refl
    go false h = h refl

-- where no kind is told, no condition holds
pub none_holds : (b : Bool) (k : Kind) (cs : Conditions) → first_fault ((b, k) ∷ cs) ≡ None → (b ≡ false) × (first_fault cs ≡ None)
none_holds true k cs e = cc
none_holds false k cs e = (refl, e)

-- of six conditions
pub six : (a b c d e f p q r s t u : Bool) (i j k l m n : Kind)
    → a ≡ p → b ≡ q → c ≡ r → (r ≡ false → d ≡ s) → (q ≡ false → e ≡ t) → f ≡ u
    → first_fault ((a, i) ∷ (b, j) ∷ (c, k) ∷ (d, l) ∷ (e, m) ∷ (f, n) ∷ [])
    ≡ first_fault ((p, i) ∷ (q, j) ∷ (r, k) ∷ (s, l) ∷ (t, m) ∷ (u, n) ∷ [])
six a b c d e f p q r s t u i j k l m n g h v w x y =
    below a p i ((b, j) ∷ (c, k) ∷ (d, l) ∷ (e, m) ∷ (f, n) ∷ []) ((q, j) ∷ (r, k) ∷ (s, l) ∷ (t, m) ∷ (u, n) ∷ []) g
    (λ _. below b q j ((c, k) ∷ (d, l) ∷ (e, m) ∷ (f, n) ∷ []) ((r, k) ∷ (s, l) ∷ (t, m) ∷ (u, n) ∷ []) h
    (λ z. below c r k ((d, l) ∷ (e, m) ∷ (f, n) ∷ []) ((s, l) ∷ (t, m) ∷ (u, n) ∷ []) v
    (λ o. below d s l ((e, m) ∷ (f, n) ∷ []) ((t, m) ∷ (u, n) ∷ []) (w o)
    (λ _. below e t m ((f, n) ∷ []) ((u, n) ∷ []) (x z)
    (λ _. below f u n [] [] y (λ _. refl))))))

pub none_repeated : (added repeated : Bool) → (not added || repeated) ≡ false → repeated ≡ false
none_repeated true repeated e = e
none_repeated false repeated e = cc

-- what holds of a value holds of what follows
pub in_ok : {T E : Type 0} (r : Result T E) (P Q : T → Type 0) → ((x : T) → P x → Q x) → IfOk r P → IfOk r Q
in_ok (Ok x) P Q f p = f x p
in_ok (Err e) P Q f p = p

-- where a statement has no kind
pub six_none : (a b c d e f : Bool) (i j k l m n : Kind)
    → first_fault ((a, i) ∷ (b, j) ∷ (c, k) ∷ (d, l) ∷ (e, m) ∷ (f, n) ∷ []) ≡ None → (b ≡ false) × (c ≡ false) × (d ≡ false)
six_none a b c d e f i j k l m n h =
    let p = none_holds a i ((b, j) ∷ (c, k) ∷ (d, l) ∷ (e, m) ∷ (f, n) ∷ []) h in
    let q = none_holds b j ((c, k) ∷ (d, l) ∷ (e, m) ∷ (f, n) ∷ []) p.1 in
    let r = none_holds c k ((d, l) ∷ (e, m) ∷ (f, n) ∷ []) q.1 in
    (q.0, r.0, (none_holds d l ((e, m) ∷ (f, n) ∷ []) r.1).0)

pub sound : (unknown large deep past : Bool) → unknown ≡ false → large ≡ false → (deep || past) ≡ false
    → (not (unknown || (large || deep)) ≡ true) × (past ≡ false)
sound unknown large deep past u l d =
    let p = or_parts deep past d in
    (ap not (or_from unknown (large || deep) u (or_from large deep l p.0)), p.1)
