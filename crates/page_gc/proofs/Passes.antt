-- A pass, and the list's loop, by what their parts ensure.
use Prim.Native.Nat.{ℕ, suc, ◌+◌, ◌-◌, ◌<◌}
use native.Mathlib.Nat.{sub-zero}
use native.Mathlib.Numerals.{add-one}
use native.Mathlib.Omega.{arith}
use mathlib.Core.Path.{◌≡◌, refl, sym, ap, subst, ◌∙◌}
use mathlib.Core.Logic.{◌≢◌}
use mathlib.Core.List.{List}
use lib.ListN.{length}
use Rattle.model.specs.declared.Geometry.{Geometry}
use Rattle.model.specs.declared.Cause.{Cause}
use Rattle.model.specs.declared.Cause.TheVariants.{Erase}
use Rattle.model.specs.Numbers.{Answer, Ok, Err}
use Rattle.model.specs.Tables.{Tables, at, pages}
use Rattle.model.specs.Sound.{Sound}
use Rattle.model.specs.Device.{Flash, State, state, may_erase, erased}
use Rattle.model.specs.Contract.{Done}
use Rattle.model.specs.PageGc.{victim, taken, reset, unflag, drain, finish_of, collect, collect_more}
use Rattle.model.proofs.Working.{Counted}
use Rattle.model.proofs.Official.{sound_counted, counted_sound}
use Rattle.model.proofs.Taken.{taken_sound, victim_seg, victim_full, victim_flag}
use Rattle.model.proofs.Collect.{Kept, collected}
use Rattle.model.proofs.Turns.{collect_none, collect_stops, collect_ends, finish-done, finish-refused, list_stops, list_ends, list_more, list_none}
use Rattle.tables.specs.declared.TablesMut.{TablesMut}
use Rattle.tables.specs.Parts.{tables_of, Same}
use Rattle.tables.proofs.Parts.{sized}
use Rattle.device.specs.declared.FlashMut.{FlashMut}
use Rattle.device.specs.Lent.{flash_of}
use Rattle.device.specs.Lent.{Same as SameFlash}
use Rattle.device.specs.Tried.{Tried}
use Rattle.device.proofs.Lent.{fits}
use Rattle.device.proofs.Tried.{tried_ok, tried_err}

-- the victim v taken from t, which left t'
module _ (t : TablesMut) (marks : length t.used.now ≡ pages t.geo) (S : Sound t.geo (tables_of t)) (some : 0 < t.queued.now) (t' : TablesMut)
    (same : Same t t') (rest : tables_of t' ≡ taken (tables_of t)) where
  counted : Counted t.geo (tables_of t)
  counted = sound_counted t.geo (tables_of t) (sized t marks) S

  pub took_marks : length t'.used.now ≡ pages t'.geo
  took_marks = rw same.geo (ap (λ (x : Tables). length x.used) rest ∙ marks)

  pub took_sound : Sound t'.geo (tables_of t')
  took_sound = rw (same.geo, rest) (counted_sound t.geo _ (taken_sound t.geo (tables_of t) counted some))

  pub took_victim : {v : ℕ} → v ≡ victim (tables_of t) → (v < t'.geo.n) × (at t'.free.now v ≡ 0) × (at t'.flags.now v ≡ 1)
  took_victim {v} e = (
    rw (same.geo, e) (victim_seg t.geo (tables_of t) counted some),
    ap (λ (x : Tables). at x.free v) rest ∙ ap (at t.free.now) e ∙ victim_full t.geo (tables_of t) counted some,
    ap (λ (x : Tables). at x.flags v) rest ∙ ap (at t.flags.now) e ∙ victim_flag t.geo (tables_of t) counted some,
  )

module _ (G : Geometry) (bad : List ℕ) (st : State) where
  -- nothing queued
  pub pass_none : st.tab.queued ≡ 0 → Done (collect G bad st) (Ok 0) st
  pass_none e = subst (λ o. Done o (Ok 0) st) (sym (collect_none G bad st e)) (record { answer = refl; left = refl })

  -- the victim v was taken, which left t₁: its list is drained
  module _ (some : st.tab.queued ≢ 0) {v : ℕ} (first : v ≡ victim st.tab) {t₁ : Tables} (rest : t₁ ≡ taken st.tab) {r : Answer} {s : State}
      (drained : Done (drain G bad G.p v (state t₁ st.flash)) r s) where
    by_definition : Done (drain G bad G.p (victim st.tab) (state (taken st.tab) st.flash)) r s
    by_definition =
        subst (λ x. Done (drain G bad G.p x (state (taken st.tab) st.flash)) r s) first
        (subst (λ x. Done (drain G bad G.p v (state x st.flash)) r s) rest drained)

    -- a copy was refused
    pub pass_stops : (c : Cause) → r ≡ Err c → Done (collect G bad st) r s
    pass_stops c e = collect_stops G bad st some c r s e by_definition

    -- all were done: the erase decides
    module _ (k : ℕ) (moved : r ≡ Ok k) where
      ends : {a : Answer} {s' : State} → Done (finish_of G (victim st.tab) s) a s' → Done (collect G bad st) a s'
      ends {a} {s'} D =
          collect_ends G bad st some k a s s'
          (subst (λ x. Done (drain G bad G.p (victim st.tab) (state (taken st.tab) st.flash)) x s) moved by_definition) D

      pub pass_refused : {e : Cause} {f : Flash} → Tried (may_erase G v s.flash) Erase (erased G v s.flash) s.flash (Err e) f
          → Done (collect G bad st) (Err e) (state s.tab f)
      pass_refused {e} {f} tried =
          let t = tried_err _ (rw first at tried) in
          ends (subst (λ o. Done o (Err e) (state s.tab f)) (sym (finish-refused G (victim st.tab) s t.0)) (record { answer = ap Err t.1; left = rw t.2 }))

      pub pass_done : {t : Tables} {f : Flash} → Tried (may_erase G v s.flash) Erase (erased G v s.flash) s.flash (Ok tt) f → t ≡ unflag G v (reset G v s.tab)
          → Done (collect G bad st) (Ok 0) (state t f)
      pass_done {t} {f} tried q =
          let d = tried_ok _ (rw first at tried) in
          let q' = rw first at q in
          ends (subst (λ o. Done o (Ok 0) (state t f)) (sym (finish-done G (victim st.tab) s d.0)) (record { answer = refl; left = rw (q', d.1) }))

-- a pass keeps the tables sound, and a mark for each page
pub pass_kept : (bad : List ℕ) (t : TablesMut) (f : FlashMut) (c : List ℕ) → length t.used.now ≡ pages t.geo → Sound t.geo (tables_of t) → f.geo ≡ t.geo
    → length c ≡ t.geo.n → (t' : TablesMut) {r : Answer} {f' : Flash}
    → t'.geo ≡ t.geo → Done (collect t.geo bad (state (tables_of t) (flash_of f c))) r (state (tables_of t') f')
    → (length t'.used.now ≡ pages t'.geo) × Sound t'.geo (tables_of t')
pass_kept bad t f c m S e h t' {r} {f'} g D =
    let st : State = state (tables_of t) (flash_of f c) in
    let K : Kept t.geo st (collect t.geo bad st) = collected t.geo t.good bad st (sound_counted t.geo (tables_of t) (sized t m) S) (fits f e h) in
    let q : tables_of t' ≡ (collect t.geo bad st).st.tab = ap (λ (s : State). s.tab) D.left in
    (rw g (ap (λ (x : Tables). length x.used) q ∙ K.sound.sized.used), rw (g, q) (counted_sound t.geo _ K.sound))

-- the list's loop, which began with t₀, f₀ and c₀: k are counted, and the definition from the start ends as the definition from here
pub record Listing (bad : List ℕ) (m : ℕ) (t₀ : TablesMut) (f₀ : FlashMut) (c₀ : List ℕ) (t : TablesMut) (f : FlashMut) (c : List ℕ) (k : ℕ)
    : Type 0 where
  pub same : Same t₀ t
  pub same_flash : SameFlash f₀ f
  pub geometry : f.geo ≡ t.geo
  pub marks : length t.used.now ≡ pages t.geo
  pub sound : Sound t.geo (tables_of t)
  pub counts : length c ≡ t.geo.n
  pub goes : (r : Answer) (s : State) → Done (collect_more t₀.geo bad (m - k) k (state (tables_of t) (flash_of f c))) r s
      → Done (collect_more t₀.geo bad m 0 (state (tables_of t₀) (flash_of f₀ c₀))) r s

pub listing_start : (bad : List ℕ) (m : ℕ) (t : TablesMut) (f : FlashMut) (c : List ℕ) → f.geo ≡ t.geo → length t.used.now ≡ pages t.geo
    → Sound t.geo (tables_of t) → length c ≡ t.geo.n → Listing bad m t f c t f c 0
listing_start bad m t f c e u S h =
    record {
      same = search;
      same_flash = search;
      geometry = e;
      marks = u;
      sound = S;
      counts = h;
      goes = λ r s D. subst (λ j. Done (collect_more t.geo bad j 0 (state (tables_of t) (flash_of f c))) r s) (sub-zero m) D;
    }

module _ {bad : List ℕ} {m : ℕ} {t₀ : TablesMut} {f₀ : FlashMut} {c₀ : List ℕ} {t : TablesMut} {f : FlashMut}
    {c : List ℕ} {k : ℕ} (L : Listing bad m t₀ f₀ c₀ t f c k) where
  abbrev G : Geometry
  G = t₀.geo

  abbrev st₀ : State
  st₀ = state (tables_of t₀) (flash_of f₀ c₀)

  abbrev st : State
  st = state (tables_of t) (flash_of f c)

  -- m are counted
  pub listing_end : k ≡ m → Done (collect_more G bad m 0 st₀) (Ok m) st
  listing_end e =
      let none : 0 ≡ m - k = omega arith in
      let last : Done (collect_more G bad 0 k st) (Ok k) st = list_none G bad k st in
      L.goes (Ok m) st (subst (λ j. Done (collect_more G bad j k st) (Ok m) st) none (subst (λ x. Done (collect_more G bad 0 k st) (Ok x) st) e last))

  -- one pass, which answered r and left t', f' and c'
  module _ (less : k < m) (t' : TablesMut) (f' : FlashMut) (c' : List ℕ) {r : Answer}
      (D : Done (collect G bad st) r (state (tables_of t') (flash_of f' c'))) where
    abbrev st' : State
    st' = state (tables_of t') (flash_of f' c')

    one_more : suc (m - (k + 1)) ≡ m - k
    one_more = omega arith

    from : (a : Answer) (s : State) → Done (collect_more G bad (suc (m - (k + 1))) k st) a s → Done (collect_more G bad m 0 st₀) a s
    from a s E = L.goes a s (subst (λ j. Done (collect_more G bad j k st) a s) one_more E)

    -- refused
    pub listing_stops : (e : Cause) → r ≡ Err e → Done (collect_more G bad m 0 st₀) r st'
    listing_stops e q = from r st' (list_stops G bad (m - (k + 1)) k st e r st' q D)

    module _ (y : ℕ) (q : r ≡ Ok y) where
      D' : Done (collect G bad st) (Ok y) st'
      D' = subst (λ a. Done (collect G bad st) a st') q D

      -- the queue is empty: stop before counting
      pub listing_drained : t'.queued.now ≡ 0 → Done (collect_more G bad m 0 st₀) (Ok k) st'
      listing_drained e = from (Ok k) st' (list_ends G bad (m - (k + 1)) k st y st' D' e)

      -- else count one
      pub listing_more : t'.queued.now ≢ 0 → Same t t' → SameFlash f f' → length t'.used.now ≡ pages t'.geo → Sound t'.geo (tables_of t')
          → length c' ≡ length c → Listing bad m t₀ f₀ c₀ t' f' c' (k + 1)
      listing_more n S F marks sound long =
          record {
            same = search;
            same_flash = search;
            geometry = F.geo ∙ L.geometry ∙ sym S.geo;
            marks = marks;
            sound = sound;
            counts = long ∙ L.counts ∙ ap (λ (x : Geometry). x.n) (sym S.geo);
            goes = λ a s E.
                from a s (list_more G bad (m - (k + 1)) k st y a st' s D' n (subst (λ j. Done (collect_more G bad (m - (k + 1)) j st') a s) (add-one k) E));
          }
