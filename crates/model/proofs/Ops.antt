-- What device operations, done or torn, leave alone: the pages that a map M names, as long as every programming is of another page and
-- the erases spare M's segments. Each call's operations are shown to be such a list (`Safe`).
use Prim.Native.Nat.{ℕ, zero, suc, ◌+◌, ◌*◌, ◌<◌}
use native.Mathlib.Omega.{arith}
use mathlib.Core.Path.{◌≡◌, refl, sym, ap, ◌∙◌, subst}
use mathlib.Core.Logic.{◌≢◌}
use mathlib.Core.List.{List, [], ◌∷◌, ◌++◌}
use lib.ListN.{length, get_or, take}
use Rattle.model.specs.Numbers.{Geometry, empty, flat, page_of, seg_of}
use Rattle.model.specs.Tables.{Tables, at}
use Rattle.model.specs.Device.{Flash, Op, Program, EraseSeg, blanked, burn, page_at, perform, perform_all, programmed}
use Rattle.model.specs.History.{Elsewhere, Spares, Torn, Cut}
use Rattle.model.specs.Contract.{Fit}
use Rattle.model.proofs.Slots.{place_inj_seg, place_inj_page}
use Rattle.model.proofs.Spend.{Next}
use Rattle.model.proofs.Content.{program_other, program_fit, segment_other, segment_fit, blank_other, blank_fit}

-- each page that a word of M names is in use, by the free counts
pub record Holds (G : Geometry) (M free : List ℕ) : Type 0 where
  pub seg : (l : ℕ) → get_or M l empty ≢ empty → seg_of G (get_or M l empty) < G.n
  pub page : (l : ℕ) → get_or M l empty ≢ empty → page_of G (get_or M l empty) + at free (seg_of G (get_or M l empty)) < G.p

-- a programming of a page that no word of M names
pub record Spared (G : Geometry) (M : List ℕ) (g k : ℕ) (page : List ℕ) : Type 0 where
  pub seg : g < G.n
  pub page< : k < G.p
  pub size : length page ≡ G.s
  pub apart : (l : ℕ) → get_or M l empty ≢ empty → flat G (get_or M l empty) ≢ g * G.p + k

-- every programming is of a page that M does not name, up to the first erase in a segment that it names
abbrev pub SafeOps : Geometry → List ℕ → List Op → Type 0
SafeOps G M [] = Unit {0}
SafeOps G M (Program g k page ∷ os) = Spared G M g k page × SafeOps G M os
SafeOps G M (EraseSeg g c ∷ os) = (g < G.n) × (Elsewhere G M g → SafeOps G M os)

-- operations that are safe for M, after which M's pages are in use by the free counts still
pub record Safe (G : Geometry) (M : List ℕ) (ops : List Op) (free : List ℕ) : Type 0 where
  pub safe : SafeOps G M ops
  pub holds : Spares G M ops → Holds G M free

-- ---- one list of operations behind another

pub perform-append : (G : Geometry) (a b : List Op) (f : Flash) → perform_all G (a ++ b) f ≡ perform_all G b (perform_all G a f)
perform-append G [] b f = refl
perform-append G (o ∷ a) b f = perform-append G a b (perform G o f)

spare_left : (G : Geometry) (M : List ℕ) (a b : List Op) → Spares G M (a ++ b) → Spares G M a
spare_left G M [] b h = tt
spare_left G M (Program g k page ∷ a) b h = spare_left G M a b h
spare_left G M (EraseSeg g c ∷ a) b h = (h.0, spare_left G M a b h.1)

spare_right : (G : Geometry) (M : List ℕ) (a b : List Op) → Spares G M (a ++ b) → Spares G M b
spare_right G M [] b h = h
spare_right G M (Program g k page ∷ a) b h = spare_right G M a b h
spare_right G M (EraseSeg g c ∷ a) b h = spare_right G M a b h.1

safe_append : (G : Geometry) (M : List ℕ) (a b : List Op) → SafeOps G M a → (Spares G M a → SafeOps G M b) → SafeOps G M (a ++ b)
safe_append G M [] b h k = k tt
safe_append G M (Program g i page ∷ a) b h k = (h.0, safe_append G M a b h.1 k)
safe_append G M (EraseSeg g c ∷ a) b h k = (h.0, λ e. safe_append G M a b (h.1 e) (λ r. k (e, r)))

pub safe_behind : (G : Geometry) (M : List ℕ) (a b : List Op) (free free' : List ℕ) → Safe G M a free → (Holds G M free → Safe G M b free')
    → Safe G M (a ++ b) free'
safe_behind G M a b free free' A B =
    record {
      safe = safe_append G M a b A.safe (λ e. (B (A.holds e)).safe);
      holds = λ e. (B (A.holds (spare_left G M a b e))).holds (spare_right G M a b e);
    }

-- a page in use is not one still to be found
pub held_apart : (G : Geometry) (M : List ℕ) (t : Tables) → Holds G M t.free → (g k : ℕ) → Next G t g k
    → (x : ℕ) → get_or M x empty ≢ empty → flat G (get_or M x empty) ≢ g * G.p + k
held_apart G M t H g k N x m e =
    let a : ℕ = get_or M x empty in
    let hk : k < G.p = omega (arith, N.some_free, N.first) in
    let hp : page_of G a < G.p = omega (arith, H.page x m) in
    let i : seg_of G a ≡ g = place_inj_seg G.p (seg_of G a) (page_of G a) g k hp hk e in
    let j : page_of G a ≡ k = place_inj_page G.p (seg_of G a) (page_of G a) g k hp hk e in
    omega (arith, H.page x m, N.first, ap (at t.free) i)

-- ---- the flash keeps its size, and M's pages their bytes

-- a programming that spares M
spared_fit : (G : Geometry) (M : List ℕ) (g k : ℕ) (page : List ℕ) (f : Flash) → Fit G f → Spared G M g k page → Fit G (programmed G g k page f)
spared_fit G M g k page f F s = program_fit G f F g k s.seg s.page< page s.size 1 (burn f.fuse)

-- an operation torn, and a cut among several
torn_fit : (G : Geometry) (M : List ℕ) (o : Op) (os : List Op) (f f' : Flash) → Fit G f → SafeOps G M (o ∷ os) → Torn G o f f' → Fit G f'
torn_fit G M (Program g k b) os f f' F s t =
    subst (Fit G) (sym t.4) (program_fit G f F g k s.0.seg s.0.page< t.0 t.2 t.1 f.fuse)
torn_fit G M (EraseSeg g c) os f f' F s t =
    subst (Fit G) (sym t.5) (segment_fit G f F g s.0 t.0 t.3 t.1 t.2 f.fuse t.4)

pub cut_fit : (G : Geometry) (M : List ℕ) (i : ℕ) (os : List Op) (f f' : Flash) → Fit G f → SafeOps G M os → Spares G M (take (suc i) os)
    → Cut G i os f f' → Fit G f'
cut_fit G M i [] f f' F s e c = subst (Fit G) (sym c) F
cut_fit G M zero (Program g k b ∷ os) f f' F s e c = torn_fit G M (Program g k b) os f f' F s c
cut_fit G M zero (EraseSeg g n ∷ os) f f' F s e c = torn_fit G M (EraseSeg g n) os f f' F s c
cut_fit G M (suc i) (Program g k b ∷ os) f f' F s e c =
    cut_fit G M i os _ f' (spared_fit G M g k b f F s.0) s.1 e c
cut_fit G M (suc i) (EraseSeg g n ∷ os) f f' F s e c = cut_fit G M i os _ f' (blank_fit G f F g n s.0) (s.1 e.0) e.1 c

module _ (G : Geometry) (M : List ℕ) (l : ℕ) (m : get_or M l empty ≢ empty) (page : page_of G (get_or M l empty) < G.p) where
  abbrev a : ℕ
  a = get_or M l empty

  -- one operation done
  program_kept : (g k : ℕ) (b : List ℕ) (f : Flash) → Fit G f → Spared G M g k b → page_at G (programmed G g k b f) a ≡ page_at G f a
  program_kept g k b f F s = program_other G f F g k s.seg s.page< b s.size (flat G a) (s.apart l m)

  erase_kept : (g c : ℕ) (f : Flash) → Fit G f → g < G.n → Elsewhere G M g → page_at G (blanked G g c f) a ≡ page_at G f a
  erase_kept g c f F hg e = blank_other G f F g c hg (seg_of G a) (page_of G a) page (e l m)

  -- the next one torn
  torn_kept : (o : Op) (os : List Op) (f f' : Flash) → Fit G f → SafeOps G M (o ∷ os) → Spares G M (o ∷ []) → Torn G o f f'
      → page_at G f' a ≡ page_at G f a
  torn_kept (Program g k b) os f f' F s e t =
      ap (λ z. page_at G z a) t.4 ∙ program_other G f F g k s.0.seg s.0.page< t.0 t.2 (flat G a) (s.0.apart l m)
  torn_kept (EraseSeg g c) os f f' F s e t =
      ap (λ z. page_at G z a) t.5 ∙ segment_other G f F g s.0 t.0 t.3 (seg_of G a) (page_of G a) page (e.0 l m)

  pub all-kept : (os : List Op) (f : Flash) → Fit G f → SafeOps G M os → Spares G M os → page_at G (perform_all G os f) a ≡ page_at G f a
  all-kept [] f F s e = refl
  all-kept (Program g k b ∷ os) f F s e =
      all-kept os _ (spared_fit G M g k b f F s.0) s.1 e ∙ program_kept g k b f F s.0
  all-kept (EraseSeg g c ∷ os) f F s e = all-kept os _ (blank_fit G f F g c s.0) (s.1 e.0) e.1 ∙ erase_kept g c f F s.0 e.0

  -- a cut after i operations: where the operations begun spare M's segments, the page is as it was
  pub cut_kept : (i : ℕ) (os : List Op) (f f' : Flash) → Fit G f → SafeOps G M os → Spares G M (take (suc i) os) → Cut G i os f f'
      → page_at G f' a ≡ page_at G f a
  cut_kept i [] f f' F s e c = ap (λ z. page_at G z a) c
  cut_kept zero (Program g k b ∷ os) f f' F s e c = torn_kept (Program g k b) os f f' F s e c
  cut_kept zero (EraseSeg g n ∷ os) f f' F s e c = torn_kept (EraseSeg g n) os f f' F s e c
  cut_kept (suc i) (Program g k b ∷ os) f f' F s e c =
      cut_kept i os _ f' (spared_fit G M g k b f F s.0) s.1 e c ∙ program_kept g k b f F s.0
  cut_kept (suc i) (EraseSeg g n ∷ os) f f' F s e c =
      cut_kept i os _ f' (blank_fit G f F g n s.0) (s.1 e.0) e.1 c ∙ erase_kept g n f F s.0 e.0
