-- What a restart brings up of the chosen images.
use Rattle.std.proofs.Common.{◌≡◌, inl, inr, ℕ, zero, suc, ◌+◌, ◌<◌, Option, Some, None, IfSome, IfNone, List, [], ◌∷◌, ◌++◌, length, drop, get_or, refl, sym, ◌∙◌, ap, subst, arith}
use Rattle.std.proofs.lemmas.List.{get_or_default}
use Rattle.qz_disk.specs.declared.calls.Call.{Call}
use Rattle.qz_disk.specs.declared.calls.Call.TheVariants.{Restart}
use Rattle.qz_disk.specs.Memory.{Standing, IsImageOf, BringsUp, standing_of}
use Rattle.qz_disk.proofs.MemoryCalls.{standing-push}

pub brings_at : (s : Standing) (images : List (List ℕ)) (k : ℕ) → k < length images → ((j : ℕ) → j < k → IsImageOf s (get_or images j []) → ⊥) → IsImageOf s (get_or images k []) → BringsUp s images (get_or images k []) (drop (k + 1) images)
brings_at s [] k lt passed is = absurd (omega (arith, lt))
brings_at s (image ∷ images) zero lt passed is = inl (is, refl, refl)
brings_at s (image ∷ images) (suc k) lt passed is =
    let next : suc k + 1 ≡ suc (k + 1) = omega arith in
    subst (λ (l : List (List ℕ)). BringsUp s (image ∷ images) (get_or images k []) l) (sym (ap (λ n. drop n (image ∷ images)) next))
    (inr (passed 0 (omega arith), brings_at s images k (omega (arith, lt)) (λ j before. passed (suc j) (omega (arith, before))) is))

pub brings_none : (s : Standing) (images : List (List ℕ)) → ((j : ℕ) → j < length images → IsImageOf s (get_or images j []) → ⊥) → BringsUp s images s.content []
brings_none s [] none = (refl, refl)
brings_none s (image ∷ images) none = inr (none 0 (omega arith), brings_none s images (λ j lt. none (suc j) (omega (arith, lt))))

-- it is an image, since the content is one
pub brings_image : (s : Standing) (images : List (List ℕ)) (up : List ℕ) (left : List (List ℕ)) → IsImageOf s s.content → BringsUp s images up left → IsImageOf s up
brings_image s [] up left content (is, _) = subst (IsImageOf s) (sym is) content
brings_image s (image ∷ images) up left content (inl (is, same, _)) = subst (IsImageOf s) (sym same) is
brings_image s (image ∷ images) up left content (inr (_, rest)) = brings_image s images up left content rest

-- the content after a restart
pub brought_up : (first : List ℕ) (calls later : List Call) (image : List ℕ) → later ≡ calls ++ Restart image ∷ [] → (standing_of first later).content ≡ image
brought_up first calls later image pushed = ap (λ (s : Standing). s.content) (standing-push first calls later (Restart image) pushed)

-- the first chosen image that is one was found, and taken out with those before it
pub brings_found : (s t : Standing) (images slice : List (List ℕ)) (place : Option ℕ) (k : ℕ) (image : List ℕ) (left : List (List ℕ)) → s ≡ t → slice ≡ images → place ≡ Some k
    → IfSome place (λ at. (at < length slice) × IsImageOf s (get_or slice at [])) → IfSome place (λ at. (j : ℕ) → j < at → IsImageOf s (get_or slice j []) → ⊥)
    → image ≡ get_or images k [] → left ≡ drop (k + 1) images → BringsUp t images image left
brings_found s t images slice place k image left same same_images is found passed image_is left_is =
    let here = subst (λ p. IfSome p (λ at. (at < length slice) × IsImageOf s (get_or slice at []))) is found in
    let before = subst (λ p. IfSome p (λ at. (j : ℕ) → j < at → IsImageOf s (get_or slice j []) → ⊥)) is passed in
    subst (λ u. BringsUp u images image left) same
    (subst (λ (l : List (List ℕ)). BringsUp s l image left) same_images
    (subst (λ (l : List ℕ). BringsUp s slice l left) (sym (image_is ∙ ap (λ (l : List (List ℕ)). get_or l k []) (sym same_images)))
    (subst (λ (l : List (List ℕ)). BringsUp s slice (get_or slice k []) l) (sym (left_is ∙ ap (λ (l : List (List ℕ)). drop (k + 1) l) (sym same_images)))
    (brings_at s slice k here.0 before here.1))))

-- the image at that place, as it is read there
pub same_item : (images slice slice_2 : List (List ℕ)) (place : Option ℕ) (k : ℕ) (item : List ℕ) (P : ℕ → Type 0) → slice ≡ images → slice_2 ≡ images → place ≡ Some k → IfSome place (λ at. (at < length slice) × P at) → item ≡ get_or slice_2 k item → item ≡ get_or images k []
same_item images slice slice_2 place k item P same same_2 is found item_is =
    let here = subst (λ p. IfSome p (λ at. (at < length slice) × P at)) is found in
    item_is ∙ ap (λ (l : List (List ℕ)). get_or l k item) same_2 ∙ get_or_default images k item [] (omega (arith, here.0, ap length same))

-- none of the chosen is one
pub brings_written : (s t : Standing) (images slice : List (List ℕ)) (place : Option ℕ) (image : List ℕ) (left : List (List ℕ)) → s ≡ t → slice ≡ images → place ≡ None
    → IfNone place ((j : ℕ) → j < length slice → IsImageOf s (get_or slice j []) → ⊥) → image ≡ t.content → left ≡ [] → BringsUp t images image left
brings_written s t images slice place image left same same_images is none image_is left_is =
    let nowhere = subst (λ p. IfNone p ((j : ℕ) → j < length slice → IsImageOf s (get_or slice j []) → ⊥)) is none in
    subst (λ u. BringsUp u images image left) same
    (subst (λ (l : List (List ℕ)). BringsUp s l image left) same_images
    (subst (λ (l : List ℕ). BringsUp s slice l left) (sym (image_is ∙ ap (λ (u : Standing). u.content) (sym same)))
    (subst (λ (l : List (List ℕ)). BringsUp s slice s.content l) (sym left_is) (brings_none s slice nowhere))))
