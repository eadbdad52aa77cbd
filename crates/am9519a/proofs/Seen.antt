-- What a view hands back decides what its call does.
-- Assumes nothing.
use Rattle.std.specs.Prelude.{Err}
use mathlib.Core.Bool.{Bool, true, false, not, cond}
use mathlib.Core.List.{List, [], ◌∷◌}
use mathlib.Core.Path.{◌≡◌, refl, ap, ◌∙◌}
use Prim.Native.Nat.{ℕ}
use lib.Dec.{ltb}
use lib.ListN.{length}
use Rattle.refusal.proofs.Numbers.{refused_already, accepted_so_far}
use Rattle.refusal.specs.Numbers.{is_accepted, first_of_list}
use Rattle.refusal.specs.declared.Refusal.{Refusal}
use Rattle.refusal.specs.declared.Refusal.TheVariants.{NotSound, ShortResults}
use Rattle.refusal.specs.Numbers.{Verdict}
use Rattle.chain.proofs.Rules.{rules}
use Rattle.chain.specs.Fields.{zero_chain}
use Rattle.decide.specs.Refusals.{no_such_chip}
use Rattle.chain.specs.Refusals.{not_sound}
use Rattle.chain.specs.declared.Chain.{Chain}
use Rattle.views.specs.Views.{table_of, picture_of, no_table, no_picture, view_verdict, register_view, pin_view}
use Rattle.image.specs.Layout.{over}
use Rattle.image.specs.Reading.{chain_in, is_image}
use Rattle.am9519a.specs.Calls.{called, chain_of, viewed, table_bytes, picture_bytes, registers_call, pins_call}

-- 1: not 528 bytes, or not of the form
abbrev pub not_an_image : List ℕ → Bool × Refusal
not_an_image image = (not (is_image image), NotSound)

-- 11: a lent buffer under so many bytes
abbrev pub short_buffer : ℕ → List ℕ → Bool × Refusal
short_buffer n view = (ltb (length view) n, ShortResults)

-- 1, 2 and 11, for a view into a buffer of at least n bytes
abbrev pub view_check : ℕ → List ℕ → ℕ → List ℕ → Verdict
view_check n image chip view =
    first_of_list (not_an_image image ∷ not_sound (chain_in image) ∷ no_such_chip (chain_in image).count chip ∷ short_buffer n view ∷ [])

-- of an image the view's own verdict comes first, then the room for its bytes; `none` is what a refused view has in the place of what it shows
of_image : {A : Type 0} (bytes : A → List ℕ) (shown none : A) (n : ℕ) (image : List ℕ) (chip : ℕ) (view : List ℕ) →
    length (bytes shown) ≡ n → is_image image ≡ true →
    viewed (view_verdict chip (chain_in image)) (bytes (cond (is_accepted (view_verdict chip (chain_in image))) shown none)) view
    ≡ called (view_check n image chip view) view (over view 0 (bytes shown))
unfolding viewed called
of_image bytes shown none n image chip view long on = either (is_accepted (view_verdict chip (chain_in image))) refl
  where
    either : (ok : Bool) → is_accepted (view_verdict chip (chain_in image)) ≡ ok →
        viewed (view_verdict chip (chain_in image)) (bytes (cond ok shown none)) view ≡ called (view_check n image chip view) view (over view 0 (bytes shown))
    either true ok =
        let goes_on : view_check n image chip view ≡ first_of_list (short_buffer n view ∷ []) =
        ap (λ is. cond (not is) (Err NotSound) (first_of_list (not_sound (chain_in image) ∷ no_such_chip (chain_in image).count chip ∷ short_buffer n view ∷ []))) on
        ∙ accepted_so_far (not_sound (chain_in image) ∷ no_such_chip (chain_in image).count chip ∷ []) (short_buffer n view ∷ []) ok in
        simp (ok, long, goes_on)
    either false ok =
        let stops : view_check n image chip view ≡ view_verdict chip (chain_in image) =
        ap (λ is. cond (not is) (Err NotSound) (first_of_list (not_sound (chain_in image) ∷ no_such_chip (chain_in image).count chip ∷ short_buffer n view ∷ []))) on
        ∙ refused_already (not_sound (chain_in image) ∷ no_such_chip (chain_in image).count chip ∷ []) (short_buffer n view ∷ []) ok in
        simp (stops, ok)

-- and what is no image is refused by 1, as a chain that is not sound is
in_image : {A : Type 0} (bytes : A → List ℕ) (shown : Chain → A) (none : A) (n : ℕ) (image : List ℕ) (chip : ℕ) (view : List ℕ) →
    length (bytes (shown (chain_in image))) ≡ n →
    viewed (view_verdict chip (chain_of image)) (bytes (cond (is_accepted (view_verdict chip (chain_of image))) (shown (chain_of image)) none)) view
    ≡ called (view_check n image chip view) view (over view 0 (bytes (shown (chain_in image))))
unfolding viewed called rules
in_image bytes shown none n image chip view long = either (is_image image) refl
  where
    chain : Bool → Chain
    chain is = cond is (chain_in image) zero_chain

    either : (is : Bool) → is_image image ≡ is →
        viewed (view_verdict chip (chain is)) (bytes (cond (is_accepted (view_verdict chip (chain is))) (shown (chain is)) none)) view
        ≡ called (view_check n image chip view) view (over view 0 (bytes (shown (chain_in image))))
    either true on = of_image bytes (shown (chain_in image)) none n image chip view long on
    either false off = simp off

-- so the two views from C are refused by the first of 1, 2 and 11, and otherwise write the table or the picture of the chain in the image
pub registers_called : (image : List ℕ) (chip : ℕ) (view : List ℕ) →
    registers_call image chip view ≡ called (view_check 9 image chip view) view (over view 0 (table_bytes (table_of chip (chain_in image))))
unfolding registers_call register_view
registers_called image chip view = in_image table_bytes (table_of chip) no_table 9 image chip view refl

pub pins_called : (image : List ℕ) (chip : ℕ) (view : List ℕ) →
    pins_call image chip view ≡ called (view_check 8 image chip view) view (over view 0 (picture_bytes (picture_of chip (chain_in image))))
unfolding pins_call pin_view
pins_called image chip view = in_image picture_bytes (picture_of chip) no_picture 8 image chip view refl
