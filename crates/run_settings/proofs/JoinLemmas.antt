-- Middles of two relations.
use Rattle.std.proofs.Common.{◌≡◌, ℕ, Bool, List, sym, ap, ◌∙◌, subst}
use Rattle.std.specs.Prelude.{IsTrue}
use Rattle.semiring_laws.specs.Semiring.{Fits, FitsMap}
use Rattle.pushdown_rules.specs.RunValue.{Frame}
use Rattle.diagram_store.specs.Meaning.{bits_of}
use Rattle.relation_laws.specs.Building.{Parts}
use Rattle.relation_laws.specs.Relations.{leads}
use Rattle.relation_laws.proofs.CallerLemmas.{extended_gives}
use Rattle.relation_weights.specs.declared.rel_map.RelMap.{RelMap}
use Rattle.relation_weights.specs.Relations.{relation_operations}
use Rattle.relation_weights.specs.RelationLaws.{fits_in, relation_laws}
use Rattle.setting_runs.specs.Relations.{Setting}
use Rattle.run_settings.specs.private.Links.{Joins}

abbrev pub IsMiddle : Parts → Parts → Setting → Setting → Type 0
IsMiddle a b x z = (y : Setting) × IsTrue (leads a x y) × IsTrue (leads b y z)

pub cut : (n : ℕ) (a b : Parts) → Fits (relation_operations n) a → Fits (relation_operations n) b → (x z : Setting) → IsTrue (leads ((relation_operations n).extend a b) x z) → IsMiddle a b x z
cut n a b fa fb x z h = extended_gives n a b (fits_in n a fa) (fits_in n b fb) x z h

-- as it stands in other places
pub cut_here : (n : ℕ) (a here b : Parts) (x from z to : List Bool) → here ≡ a → from ≡ x → to ≡ z → Fits (relation_operations n) a → Fits (relation_operations n) b → Joins ((relation_operations n).extend a b) x z
    → IsMiddle here b (bits_of from) (bits_of to)
cut_here n a here b x from z to same_a same_x same_z fa fb h =
    let y = cut n a b fa fb (bits_of x) (bits_of z) h in (
      y.0,
      subst (λ (w : Parts). IsTrue (leads w (bits_of from) y.0)) (sym same_a) (subst (λ (l : List Bool). IsTrue (leads a (bits_of l) y.0)) (sym same_x) y.1),
      subst (λ (l : List Bool). IsTrue (leads b y.0 (bits_of l))) (sym same_z) y.2,
    )

-- a product that was made is between two settings
pub cut_made : (n : ℕ) (a b w : Parts) → Fits (relation_operations n) a → Fits (relation_operations n) b → w ≡ (relation_operations n).extend a b → (x z : Setting) → IsTrue (leads w x z) → IsMiddle a b x z
cut_made n a b w fa fb e x z h = cut n a b fa fb x z (subst (λ (v : Parts). IsTrue (leads v x z)) e h)

-- ---- what the relations over so many variables made

module _ (m n : ℕ) (e : m ≡ n) where
  pub fits_here : (w : Parts) → Fits (relation_operations n) w → Fits (relation_operations m) w
  fits_here w fit = subst (λ k. Fits (relation_operations k) w) (sym e) fit

  pub made_product : (a b w : Parts) → w ≡ (relation_operations m).extend a b → w ≡ (relation_operations n).extend a b
  made_product a b w is = is ∙ ap (λ k. (relation_operations k).extend a b) e

  pub product_fits : (a b w : Parts) → Fits (relation_operations n) a → Fits (relation_operations n) b → w ≡ (relation_operations m).extend a b → Fits (relation_operations n) w
  product_fits a b w fa fb is = subst (Fits (relation_operations n)) (sym (made_product a b w is)) ((relation_laws n).fits-extend a b fa fb)

  pub made_return : (h : RelMap) (w v : Parts) → v ≡ (relation_operations m).after h w → v ≡ (relation_operations n).after h w
  made_return h w v is = is ∙ ap (λ k. (relation_operations k).after h w) e

  pub return_fits : (h : RelMap) (w v : Parts) → FitsMap (relation_operations n) h → Fits (relation_operations n) w → v ≡ (relation_operations m).after h w → Fits (relation_operations n) v
  return_fits h w v fh fw is = subst (Fits (relation_operations n)) (sym (made_return h w v is)) ((relation_laws n).fits-after h w fh fw)

  -- a setting at a call
  pub cut_return : (call inside : Frame Parts RelMap) (value weight whole returned : Parts) → inside ≡ call
      → Fits (relation_operations n) call.saved → FitsMap (relation_operations n) call.map → Fits (relation_operations n) value → Fits (relation_operations n) weight
      → whole ≡ (relation_operations m).extend value weight → returned ≡ (relation_operations m).after inside.map whole
      → (x z : Setting) → IsTrue (leads ((relation_operations n).extend call.saved ((relation_operations n).after call.map ((relation_operations n).extend value weight))) x z)
      → IsMiddle inside.saved returned x z
  cut_return call inside value weight whole returned same fs fm fv fw is back x z h =
      let product = made_product value weight whole is in
      let again : returned ≡ (relation_operations n).after call.map ((relation_operations n).extend value weight) =
      made_return inside.map whole returned back ∙ ap (λ (f : Frame Parts RelMap). (relation_operations n).after f.map whole) same ∙ ap (λ w. (relation_operations n).after call.map w) product in
      let fr : Fits (relation_operations n) ((relation_operations n).after call.map ((relation_operations n).extend value weight)) =
      (relation_laws n).fits-after call.map ((relation_operations n).extend value weight) fm ((relation_laws n).fits-extend value weight fv fw) in
      let y = cut n call.saved ((relation_operations n).after call.map ((relation_operations n).extend value weight)) fs fr x z h in (
        y.0,
        subst (λ (f : Frame Parts RelMap). IsTrue (leads f.saved x y.0)) (sym same) y.1,
        subst (λ (w : Parts). IsTrue (leads w y.0 z)) (sym again) y.2,
      )
