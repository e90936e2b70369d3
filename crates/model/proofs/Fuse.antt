-- The fuse: with fuse f below the endless one, a call does the first f of the operations that it does under an endless fuse.
use Prim.Native.Nat.{ℕ, zero, suc, ◌+◌, ◌-◌, ◌≤◌, ◌<◌}
use native.Mathlib.Omega.{arith}
use mathlib.Core.Path.{◌≡◌, refl, sym, ap, ◌∙◌, subst}
use mathlib.Core.Bool.{Bool, true, false, not, cond, ◌&&◌}
use mathlib.Core.Logic.{◌⊎◌, inl, inr, ◌≢◌}
use mathlib.Core.List.{List, [], ◌∷◌, ◌++◌}
use lib.Dec.{eqb, ltb}
use lib.ListN.{length, take, length-append}
use lib.Seq.{take-append-le, take-append-add, take_all, take-nil}
use borrow.Author.Tests.{ne_eqb}
use Rattle.model.specs.Lists.{splice, total}
use Rattle.model.specs.Numbers.{Geometry, Answer, Ok, Err, Cause, NoRoom, Device, Erase, endless}
use Rattle.model.specs.Tables.{at}
use Rattle.model.specs.Device.{flash, Op, Program, EraseSeg, raised, State, state, Out, out, burn}
use Rattle.model.specs.Device.{blanked, clear_up, may_program, may_erase, refuse, finish, behind, go_on, and_then, format_from}
use Rattle.model.specs.PageMap.{Found, Some, None, find}
use Rattle.model.specs.PageWrite.{whole, old_page, stored, spent, write_at, write_page}
use Rattle.model.specs.PageGc.{of_copy, copy_answer, as_copy_out, victim, taken, cleared, finish_of, last_of}
use Rattle.model.specs.PageGc.{copy_one, drain, collect_of, collect, collect_more, collect_list, collect_threshold}
use Rattle.model.proofs.Slots.{same?}

-- a state with another fuse
abbrev pub lit : ℕ → State → State
lit f st = state st.tab (flash st.flash.bytes st.flash.marks st.flash.counts f)

-- o is a run with fuse f, o∞ the same with an endless fuse: they went the same way, and `rest` is what is left of the fuse
pub record Alike (f : ℕ) (o o∞ : Out) : Type 0 where
  pub rest : ℕ
  pub left : rest + length o∞.ops ≡ f
  pub here : o.st ≡ lit rest o∞.st
  pub there : o∞.st ≡ lit endless o∞.st
  pub answer : o.answer ≡ o∞.answer
  pub ops : o.ops ≡ o∞.ops

-- or the fuse ran out, and the run ended there, refused
pub record Stopped (f : ℕ) (o o∞ : Out) : Type 0 where
  pub cause : Cause
  pub answer : o.answer ≡ Err cause
  pub long : f ≤ length o∞.ops
  pub ops : o.ops ≡ take f o∞.ops

abbrev pub Tracks : ℕ → Out → Out → Type 0
Tracks f o o∞ = Alike f o o∞ ⊎ Stopped f o o∞

tracks_ops : (f : ℕ) (o o∞ : Out) → Tracks f o o∞ → o.ops ≡ take f o∞.ops
tracks_ops f o o∞ (inl a) = a.ops ∙ sym (take_all f o∞.ops (omega (arith, a.left)))
tracks_ops f o o∞ (inr s) = s.ops

idle : (f : ℕ) (a : Answer) (st : State) → Tracks f (out (lit f st) a []) (out (lit endless st) a [])
idle f a st = inl (record { rest = f; left = omega arith; here = refl; there = refl; answer = refl; ops = refl })

-- one run after the other
module _ (k : State → Out) where
  abbrev TracksTo : ℕ → Type 0
  TracksTo f = (g : ℕ) (s : State) → g ≤ f → Tracks g (k (lit g s)) (k (lit endless s))

  chain_alike : (f : ℕ) (o o∞ : Out) → Alike f o o∞ → TracksTo f → Tracks f (and_then o k) (and_then o∞ k)
  chain_alike f o o∞ A next =
      subst (λ a. Tracks f (go_on a o k) (go_on o∞.answer o∞ k)) (sym A.answer) (go o∞.answer)
    where
      tail : Tracks A.rest (k o.st) (k o∞.st)
      tail =
          subst (λ z. Tracks A.rest (k o.st) (k z)) (sym A.there)
          (subst (λ z. Tracks A.rest (k z) (k (lit endless o∞.st))) (sym A.here)
          (next A.rest o∞.st (omega (arith, A.left))))

      join : Tracks A.rest (k o.st) (k o∞.st) → Tracks f (behind o.ops (k o.st)) (behind o∞.ops (k o∞.st))
      join (inl B) =
          inl
          (record {
            rest = B.rest;
            left = omega (arith, A.left, B.left, length-append o∞.ops (k o∞.st).ops);
            here = B.here;
            there = B.there;
            answer = B.answer;
            ops = ap (λ z. z ++ (k o.st).ops) A.ops ∙ ap (λ z. o∞.ops ++ z) B.ops;
          })
      join (inr B) =
          let e : length o∞.ops + A.rest ≡ f = omega (arith, A.left) in
          inr
          (record {
            cause = B.cause;
            answer = B.answer;
            long = omega (arith, A.left, B.long, length-append o∞.ops (k o∞.st).ops);
            ops =
                ap (λ z. z ++ (k o.st).ops) A.ops
                ∙ ap (λ z. o∞.ops ++ z) B.ops
                ∙ sym (take-append-add o∞.ops (k o∞.st).ops A.rest)
                ∙ ap (λ m. take m (o∞.ops ++ (k o∞.st).ops)) e;
          })

      go : (a : Answer) → Tracks f (go_on a o k) (go_on a o∞ k)
      go (Ok m) = join tail
      go (Err r) = inl A

  chain_stopped : (f : ℕ) (o o∞ : Out) → Stopped f o o∞ → Stopped f (and_then o k) (and_then o∞ k)
  chain_stopped f o o∞ B =
      subst (λ a. Stopped f (go_on a o k) (go_on o∞.answer o∞ k)) (sym B.answer) (go o∞.answer)
    where
      go : (a : Answer) → Stopped f o (go_on a o∞ k)
      go (Err r) = B
      go (Ok m) =
          record {
            cause = B.cause;
            answer = B.answer;
            long = omega (arith, B.long, length-append o∞.ops (k o∞.st).ops);
            ops = B.ops ∙ sym (take-append-le f o∞.ops (k o∞.st).ops B.long);
          }

  chain : (f : ℕ) (o o∞ : Out) → Tracks f o o∞ → TracksTo f → Tracks f (and_then o k) (and_then o∞ k)
  chain f o o∞ (inl A) next = chain_alike f o o∞ A next
  chain f o o∞ (inr B) next = inr (chain_stopped f o o∞ B)

-- two runs that a test picks between
either : (f : ℕ) (b : Bool) {o o∞ q q∞ : Out} → Tracks f o o∞ → Tracks f q q∞ → Tracks f (cond b o q) (cond b o∞ q∞)
either f true x y = x
either f false x y = y

as_copy : (f : ℕ) (o o∞ : Out) → Tracks f o o∞ → Tracks f (as_copy_out o) (as_copy_out o∞)
as_copy f o o∞ (inl A) =
    inl (record { rest = A.rest; left = A.left; here = A.here; there = A.there; answer = ap copy_answer A.answer; ops = A.ops })
as_copy f o o∞ (inr B) = inr (record { cause = of_copy B.cause; answer = ap copy_answer B.answer; long = B.long; ops = B.ops })

-- one operation done
burn_finite : (f : ℕ) → f < endless → burn f ≡ f - 1
unfolding burn
burn_finite f h = rw (ne_eqb f endless (omega arith))

one_done : (f : ℕ) → f < endless → f ≢ 0 → (st : State) (a : Answer) (o : Op)
    → Tracks f (out (lit (burn f) st) a (o ∷ [])) (out (lit (burn endless) st) a (o ∷ []))
unfolding burn
one_done f h n st a o =
    inl
    (record { rest = f - 1; left = omega arith; here = ap (λ z. lit z st) (burn_finite f h); there = refl; answer = refl; ops = refl })

-- or refused because the fuse is out
fuse_out : {c : Cause} {st : State} {o∞ : Out} → Tracks 0 (refuse c st) o∞
fuse_out {c} = inr (record { cause = c; answer = refl; long = omega arith; ops = refl })

-- the two operations: their tests differ in the fuse alone
module _ (G : Geometry) where
  tracks_at : (f : ℕ) → f < endless → (r : Found) (l off : ℕ) (d : List ℕ) (s : State)
      → Tracks f (write_at G r l off d (lit f s)) (write_at G r l off d (lit endless s))
  unfolding write_at may_program old_page
  tracks_at f h None l off d s = idle f (Err NoRoom) s
  tracks_at f h (Some x) l off d s = go (clear_up G g k s.flash) (same? f 0)
    where
      g : ℕ
      g = x.segment

      k : ℕ
      k = x.page

      page : List ℕ
      page = splice off d (old_page G s l)

      Goal : Bool → Bool → Bool → Type 0
      Goal a b c =
          Tracks f (cond (a && not b) (stored G l (length d) g k page (lit f s)) (spent G g k (lit f s)))
          (cond (a && not c) (stored G l (length d) g k page (lit endless s)) (spent G g k (lit endless s)))

      go : (a : Bool) → (f ≡ 0) ⊎ (f ≢ 0) → Goal a (eqb f 0) (eqb endless 0)
      go false z = idle f (Err Device) (spent G g k s).st
      go true (inl e) = rw e fuse_out
      go true (inr n) = rw (ne_eqb f 0 n) (one_done f h n (stored G l (length d) g k page s).st (Ok (length d)) (Program g k page))

  tracks_erase : (f : ℕ) → f < endless → (v : ℕ) (s : State) → Tracks f (finish_of G v (lit f s)) (finish_of G v (lit endless s))
  unfolding finish_of may_erase
  tracks_erase f h v s = go (ltb (at s.flash.counts v) G.limit) (same? f 0)
    where
      Goal : Bool → Bool → Bool → Type 0
      Goal a b c =
          Tracks f (cond (a && not b) (cleared G v (lit f s)) (refuse Erase (lit f s)))
          (cond (a && not c) (cleared G v (lit endless s)) (refuse Erase (lit endless s)))

      go : (a : Bool) → (f ≡ 0) ⊎ (f ≢ 0) → Goal a (eqb f 0) (eqb endless 0)
      go false z = idle f (Err Erase) s
      go true (inl e) = rw e fuse_out
      go true (inr n) = rw (ne_eqb f 0 n) (one_done f h n (cleared G v s).st (Ok 0) (EraseSeg v (raised G v s.flash)))

module _ (G : Geometry) (bad : List ℕ) where
  tracks_write : (f : ℕ) → f < endless → (l off : ℕ) (d : List ℕ) (s : State)
      → Tracks f (write_page G bad l off d (lit f s)) (write_page G bad l off d (lit endless s))
  unfolding write_page
  tracks_write f h l off d s = tracks_at G f h (find G bad s.tab) l off d s

  tracks_copy : (f : ℕ) → f < endless → (v : ℕ) (s : State) → Tracks f (copy_one G bad v (lit f s)) (copy_one G bad v (lit endless s))
  tracks_copy f h v s = as_copy f _ _ (tracks_write f h (last_of G v s.tab) 0 (whole G s (last_of G v s.tab)) s)

  tracks_drain : (b v f : ℕ) → f < endless → (s : State) → Tracks f (drain G bad b v (lit f s)) (drain G bad b v (lit endless s))
  unfolding drain
  tracks_drain zero v f h s = idle f (Ok 0) s
  tracks_drain (suc b) v f h s =
      either f (eqb (at s.tab.lens v) 0) (idle f (Ok 0) s)
      (chain (λ t. drain G bad b v t) f _ _ (tracks_copy f h v s) (λ g t le. tracks_drain b v g (omega arith) t))

  tracks_of : (f : ℕ) → f < endless → (v : ℕ) (s : State) → Tracks f (collect_of G bad v (lit f s)) (collect_of G bad v (lit endless s))
  unfolding collect_of
  tracks_of f h v s =
      chain (λ t. finish_of G v t) f _ _
      (tracks_drain G.p v f h (state (taken s.tab) s.flash))
      (λ g t le. tracks_erase G g (omega arith) v t)

  tracks_collect : (f : ℕ) → f < endless → (s : State) → Tracks f (collect G bad (lit f s)) (collect G bad (lit endless s))
  unfolding collect
  tracks_collect f h s = either f (eqb s.tab.queued 0) (idle f (Ok 0) s) (tracks_of f h (victim s.tab) s)

  tracks_more : (m c f : ℕ) → f < endless → (s : State)
      → Tracks f (collect_more G bad m c (lit f s)) (collect_more G bad m c (lit endless s))
  unfolding collect_more
  tracks_more zero c f h s = idle f (Ok c) s
  tracks_more (suc m) c f h s =
      chain (λ t. cond (eqb t.tab.queued 0) (finish c t) (collect_more G bad m (suc c) t)) f _ _
      (tracks_collect f h s)
      (λ g t b. either g (eqb t.tab.queued 0) (idle g (Ok c) t) (tracks_more m (suc c) g (omega arith) t))

  tracks_list : (m f : ℕ) → f < endless → (s : State) → Tracks f (collect_list G bad m (lit f s)) (collect_list G bad m (lit endless s))
  unfolding collect_list
  tracks_list m f h s = tracks_more m 0 f h s

  tracks_threshold : (threshold m f : ℕ) → f < endless → (s : State)
      → Tracks f (collect_threshold G bad threshold m (lit f s)) (collect_threshold G bad threshold m (lit endless s))
  unfolding collect_threshold
  tracks_threshold threshold m f h s = either f (ltb threshold (total s.tab.free)) (idle f (Ok 0) s) (tracks_list m f h s)

-- ---- what the operations are, with a finite fuse: the first of those under an endless one

module _ (G : Geometry) (bad : List ℕ) (f : ℕ) (h : f < endless) (s : State) where
  pub fused_write : (l off : ℕ) (d : List ℕ)
      → (write_page G bad l off d (lit f s)).ops ≡ take f (write_page G bad l off d (lit endless s)).ops
  fused_write l off d = tracks_ops f _ _ (tracks_write G bad f h l off d s)

  pub fused_collect : (collect G bad (lit f s)).ops ≡ take f (collect G bad (lit endless s)).ops
  fused_collect = tracks_ops f _ _ (tracks_collect G bad f h s)

  pub fused_list : (m : ℕ) → (collect_list G bad m (lit f s)).ops ≡ take f (collect_list G bad m (lit endless s)).ops
  fused_list m = tracks_ops f _ _ (tracks_list G bad m f h s)

  pub fused_threshold : (threshold m : ℕ)
      → (collect_threshold G bad threshold m (lit f s)).ops ≡ take f (collect_threshold G bad threshold m (lit endless s)).ops
  fused_threshold threshold m = tracks_ops f _ _ (tracks_threshold G bad threshold m f h s)

-- at least one operation
take_one : (f : ℕ) → f ≢ 0 → (o : Op) (os : List Op) → take f (o ∷ os) ≡ o ∷ take (f - 1) os
take_one zero n o os = absurd (n refl)
take_one (suc f) n o os = let e : f ≡ suc f - 1 = omega arith in ap (λ x. o ∷ take x os) e

-- formatting goes on answering 0 when the fuse is out
pub fused_format : (G : Geometry) (k g f : ℕ) → f < endless → (s : State)
    → (format_from G k g (lit f s)).ops ≡ take f (format_from G k g (lit endless s)).ops
unfolding format_from burn
fused_format G zero g f h s = sym (take-nil f)
fused_format G (suc k) g f h s = go (same? f 0) (λ x b. fused_format G k (suc g) x b (state s.tab (blanked G g 0 s.flash)))
  where
    more : ℕ → List Op
    more x = (format_from G k (suc g) (lit x (state s.tab (blanked G g 0 s.flash)))).ops

    go : (f ≡ 0) ⊎ (f ≢ 0) → ((x : ℕ) → x < endless → more x ≡ take x (more endless))
        → (cond (eqb f 0) (finish 0 (lit f s))
        (behind (EraseSeg g 0 ∷ []) (format_from G k (suc g) (state s.tab (blanked G g 0 (lit f s).flash))))
        ).ops
        ≡ take f (EraseSeg g 0 ∷ more endless)
    go (inl e) ih = rw e refl
    go (inr n) ih =
        rw (ne_eqb f 0 n)
        (ap (λ x. EraseSeg g 0 ∷ more x) (burn_finite f h)
        ∙ ap (λ z. EraseSeg g 0 ∷ z) (ih (f - 1) (omega arith))
        ∙ sym (take_one f n (EraseSeg g 0) (more endless)))
