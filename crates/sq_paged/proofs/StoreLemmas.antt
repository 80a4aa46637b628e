-- Pages that are written, taken from, made and let go, and what each leaves of the other pages.
use Rattle.std.proofs.Common.{◌≡◌, ◌≢◌, ℕ, suc, ◌+◌, ◌-◌, ◌≤◌, true, false, cond, eqb, List, [], ◌∷◌, ◌++◌, Option, Some, None, length, refl, sym, ap, subst, ◌∙◌, append_assoc, inl, inr, arith}
use Rattle.std.specs.Prelude.{is_some, ◌||◌}
use Rattle.std.proofs.lemmas.Bool.{cases_eq}
use Rattle.std.specs.FinMap as finite
use Rattle.sq_outside.specs.Disks.{DiskLog, Pages}
use Rattle.sq_pool.specs.Slots.{digest_at}
use Rattle.sq_pool.specs.Pools.{Pooled, bytes_in, is_held, if_none, if_kept, Agree, with_bytes, Makes, Drops, IsMade, zeros, LetsGo}
use Rattle.sq_pool.specs.Trust.{Tells}
use Rattle.sq_link.proofs.ListLemmas.{eqb-other}
use Rattle.sq_pool.proofs.MapLemmas.{bytes-last, room-out}
use Rattle.std.proofs.lemmas.List.{length-append}
use Rattle.sq_item.specs.declared.Item.{Item}
use Rattle.sq_page.specs.Fitting.{FitsPage, items_from}
use Rattle.sq_page.specs.Pages.{item_bytes, IsPageOf, EndsAt, ItemBeginsAt, end_of}
use Rattle.sq_page.proofs.FitLemmas.{items-are-read}
use Rattle.sq_page.proofs.PageLemmas.{many-room}
use Rattle.sq_page.proofs.Takes.{some_is}
use Rattle.sq_page.proofs.WholeTakes.{item_at_end, empty_page}
use Rattle.sq_paged.specs.KeptPages.{Appended, Taken, Started, IsFirstOf, items_kept, items_of_bytes}
use Rattle.sq_bring.specs.Bringing.{page_seen, FitsKept, Brought, LeavesOthers, WereIn}
use Rattle.sq_bring.specs.declared.bring.Kept.{Kept}
use Rattle.sq_paged.proofs.KeptWords.{Written}
use Rattle.sq_bring.proofs.BringLemmas.{room-known, loaded-known, in-frame}
use Rattle.sq_words.proofs.Numbers.{eqb_itself}

with-here : (p : ℕ) (w b : List ℕ) (xs : List (ℕ × List ℕ)) → bytes_in p xs ≡ Some b → bytes_in p (with_bytes p w xs) ≡ Some w
with-here p w b [] e = absurd cc
with-here p w b (x ∷ xs) e =
    elim (cases_eq x.0 p) [
      | inl at ↦ let here : eqb x.0 p ≡ true = rw (at) (eqb_itself p) in rw (here, here) refl
      | inr other ↦ let apart : eqb x.0 p ≡ false = eqb-other x.0 p other in rw (apart, apart) (with-here p w b xs (rw (apart) at e))
    ]

with-other : (p q : ℕ) (w : List ℕ) (xs : List (ℕ × List ℕ)) → q ≢ p → bytes_in q (with_bytes p w xs) ≡ bytes_in q xs
with-other p q w [] other = refl
with-other p q w (x ∷ xs) other =
    elim (cases_eq x.0 p) [
      | inl at ↦
          let here : eqb x.0 p ≡ true = rw (at) (eqb_itself p) in
          let apart : eqb x.0 q ≡ false = eqb-other x.0 q (λ s. other (sym s ∙ at)) in
          rw (here, apart) (with-other p q w xs other)
      | inr differ ↦ let apart : eqb x.0 p ≡ false = eqb-other x.0 p differ in rw (apart) (ap (λ (o : Option (List ℕ)). cond (eqb x.0 q) (Some x.1) o) (with-other p q w xs other))
    ]

abbrev pub rewritten : Pooled → ℕ → List ℕ → Pooled
rewritten c p w = record c { resident = with_bytes p w c.resident }

agree-rewritten : (c : Pooled) (told : Option Pages) (p : ℕ) (w : List ℕ) → Agree c told → Agree (rewritten c p w) told
agree-rewritten c None p w h = tt
agree-rewritten c (Some t) p w h = h

seen-other : (c : Pooled) (told : Option Pages) (p q : ℕ) (w : List ℕ) → q ≢ p → page_seen (rewritten c p w) told q ≡ page_seen c told q
seen-other c None p q w other = with-other p q w c.resident other
seen-other c (Some t) p q w other = ap (λ (o : Option (List ℕ)). if_none o (if_kept (digest_at c.kept q) (finite.get t q))) (with-other p q w c.resident other)

-- a page in a frame is written
pub rewritten-written : (c : Pooled) (told : Option Pages) (p : ℕ) (b w : List ℕ) → bytes_in p c.resident ≡ Some b → Agree c told → Written c told (rewritten c p w) told p w
rewritten-written c told p b w there agree =
    let here : bytes_in p (with_bytes p w c.resident) ≡ Some w = with-here p w b c.resident there in
    record {
      there = here;
      held = ap (λ (o : Option (List ℕ)). is_some o || is_some (digest_at c.kept p)) here;
      spares = record {
        known = λ q other b e. sym (seen-other c told p q w other) ∙ e;
        same = λ t q other. seen-other c told p q w other;
        held = λ q other. ap (λ (o : Option (List ℕ)). is_some o || is_some (digest_at c.kept q)) (with-other p q w c.resident other);
        tells = λ t. t;
        agree = agree-rewritten c told p w agree;
        frames = refl;
      };
    }

pub spares-then : (c : Pooled) (told : Option Pages) (d : Pooled) (now : Option Pages) (e : Pooled) (end : Option Pages) (p : ℕ) → LeavesOthers c told d now p → LeavesOthers d now e end p → LeavesOthers c told e end p
spares-then c told d now e end p a b =
    record {
      known = λ q other bytes is. a.known q other bytes (b.known q other bytes is);
      same = λ t q other. b.same t q other ∙ a.same (b.tells t) q other;
      held = λ q other. b.held q other ∙ a.held q other;
      tells = λ t. a.tells (b.tells t);
      agree = b.agree;
      frames = b.frames ∙ a.frames;
    }

-- ---- an item behind the last of a page

items-fit : (kept : Kept) (b : List ℕ) → (f : FitsKept b kept) → items_from b kept.start kept.count ≡ f.back
items-fit kept b f = ap (λ (n : ℕ). items_from b n kept.count) f.starts ∙ ap (λ (n : ℕ). items_from b (end_of f.front) n) f.counts ∙ items-are-read b f.front f.back f.page

pub items-seen : (c : Pooled) (told : Option Pages) (kept : Kept) (b : List ℕ) → page_seen c told kept.page ≡ Some b → (f : FitsKept b kept) → items_kept c told kept ≡ f.back
items-seen c told kept b is f = ap (λ (o : Option (List ℕ)). items_of_bytes o kept) is ∙ items-fit kept b f

pub fits-few : (bytes : List ℕ) (start count end : ℕ) → FitsPage bytes start count end → count ≤ 8190
fits-few bytes start count end f = omega (arith, f.counts, f.page.room, many-room (f.front ++ f.back), length-append f.front f.back)

pub fits-low : (bytes : List ℕ) (start count end : ℕ) → FitsPage bytes start count end → end ≤ 8192
fits-low bytes start count end f = omega (arith, f.ends, f.page.room)

pub fits-end : (bytes : List ℕ) (kept : Kept) → FitsKept bytes kept → EndsAt bytes kept.end
fits-end bytes kept f = (f.front ++ f.back, f.page, f.ends)

appended-fits : (b w : List ℕ) (kept after : Kept) (item : Item) → (f : FitsKept b kept)
    → ((items : List Item) → IsPageOf b items → kept.end ≡ end_of items → IsPageOf w (items ++ item ∷ []))
    → after ≡ record kept { count = kept.count + 1; end = kept.end + length (item_bytes item) } → (g : FitsKept w after) × (g.back ≡ f.back ++ item ∷ [])
appended-fits b w kept after item f page is =
    let more : IsPageOf w ((f.front ++ f.back) ++ item ∷ []) = page (f.front ++ f.back) f.page f.ends in
    let parts : (f.front ++ f.back) ++ item ∷ [] ≡ f.front ++ (f.back ++ item ∷ []) = append_assoc f.front f.back (item ∷ []) in (
      record {
        front = f.front;
        back = f.back ++ item ∷ [];
        page = subst (λ (xs : List Item). IsPageOf w xs) parts more;
        starts = ap (λ (k : Kept). k.start) is ∙ f.starts;
        counts = omega (arith, ap (λ (k : Kept). k.count) is, f.counts, length-append f.back (item ∷ []));
        ends = omega (arith, ap (λ (k : Kept). k.end) is, f.ends, ap end_of parts, item_at_end (f.front ++ f.back) item);
      },
      refl,
    )

pub appended : (c : Pooled) (told : Option Pages) (d : Pooled) (now : Option Pages) (e : Pooled) (kept after : Kept) (item : Item) (w : List ℕ)
    → Brought c told d now kept → e ≡ rewritten d kept.page w
    → ((before : List ℕ) (items : List Item) → bytes_in kept.page d.resident ≡ Some before → IsPageOf before items → kept.end ≡ end_of items → IsPageOf w (items ++ item ∷ []))
    → after ≡ record kept { count = kept.count + 1; end = kept.end + length (item_bytes item) } → Appended c told e now kept after item
appended c told d now e kept after item w b pool page is =
    let g = appended-fits b.bytes w kept after item b.fits (λ items. page b.bytes items b.there) is in
    let at : after.page ≡ kept.page = ap (λ (k : Kept). k.page) is in
    let wrote : Written d now e now kept.page w = subst (λ (x : Pooled). Written d now x now kept.page w) (sym pool) (rewritten-written d now kept.page b.bytes w b.there b.spares.agree) in
    let here : page_seen e now after.page ≡ Some w = ap (λ (n : ℕ). page_seen e now n) at ∙ in-frame e now kept.page w wrote.there in
    record {
      page = at;
      spares = spares-then c told d now e now kept.page b.spares wrote.spares;
      held = wrote.held;
      fits = λ bytes known. subst (λ (x : List ℕ). FitsKept x after) (some_is _ _ (sym here ∙ known)) g.0;
      ends = fits-low _ _ _ _ g.0;
      count = ap (λ (k : Kept). k.count) is;
      time = ap (λ (k : Kept). k.time) is;
      items = λ t. items-seen e now after w here g.0 ∙ g.1 ∙ ap (λ (xs : List Item). xs ++ item ∷ []) (sym (items-seen c told kept b.bytes (b.same t) b.fits));
    }

-- ---- the first item that is left of a page

pub back-head : (back : List Item) → 1 ≤ length back → (item : Item) × (rest : List Item) × (back ≡ item ∷ rest)
back-head [] h = absurd (omega (arith, h))
back-head (item ∷ rest) h = (item, rest, refl)

-- a page of which an item is left, seen by that item
pub record FirstLeft (bytes : List ℕ) (kept : Kept) (back : List Item) : Type 0 where
  pub front : List Item
  pub item : Item
  pub rest : List Item
  pub page : IsPageOf bytes (front ++ item ∷ rest)
  pub starts : kept.start ≡ end_of front
  pub back_is : back ≡ item ∷ rest
  pub counts : kept.count ≡ suc (length rest)
  pub ends : kept.end ≡ end_of (front ++ item ∷ rest)

pub first-left : (bytes : List ℕ) (kept : Kept) → (f : FitsKept bytes kept) → 1 ≤ kept.count → FirstLeft bytes kept f.back
first-left bytes kept f some =
    let h = back-head f.back (omega (arith, f.counts, some)) in
    let parts : f.front ++ f.back ≡ f.front ++ h.0 ∷ h.1 = ap (λ (xs : List Item). f.front ++ xs) h.2 in
    record {
      front = f.front;
      item = h.0;
      rest = h.1;
      page = subst (λ (xs : List Item). IsPageOf bytes xs) parts f.page;
      starts = f.starts;
      back_is = h.2;
      counts = f.counts ∙ ap (λ (xs : List Item). length xs) h.2;
      ends = f.ends ∙ ap end_of parts;
    }

pub fits-begins : (bytes : List ℕ) (kept : Kept) → FitsKept bytes kept → 1 ≤ kept.count → ItemBeginsAt bytes kept.start
fits-begins bytes kept f some = let l = first-left bytes kept f some in (l.front, l.item, l.rest, l.page, l.starts)

-- the page behind its first item
behind : (bytes : List ℕ) (front : List Item) (item : Item) (rest : List Item) → IsPageOf bytes (front ++ item ∷ rest) → IsPageOf bytes ((front ++ item ∷ []) ++ rest)
behind bytes front item rest h = subst (λ (xs : List Item). IsPageOf bytes xs) (sym (append_assoc front (item ∷ []) rest)) h

pub next-begins : (bytes : List ℕ) (kept : Kept) (start : ℕ) → FitsKept bytes kept → 2 ≤ kept.count
    → ((front : List Item) (item : Item) (back : List Item) → IsPageOf bytes (front ++ item ∷ back) → kept.start ≡ end_of front → start ≡ end_of (front ++ item ∷ [])) → ItemBeginsAt bytes start
next-begins bytes kept start f two ends =
    let l = first-left bytes kept f (omega (arith, two)) in
    let h = back-head l.rest (omega (arith, l.counts, two)) in
    let page : IsPageOf bytes ((l.front ++ l.item ∷ []) ++ h.0 ∷ h.1) = subst (λ (xs : List Item). IsPageOf bytes ((l.front ++ l.item ∷ []) ++ xs)) h.2 (behind bytes l.front l.item l.rest l.page) in
    (l.front ++ l.item ∷ [], h.0, h.1, page, ends l.front l.item l.rest l.page l.starts)

pub taken : (c : Pooled) (told : Option Pages) (d : Pooled) (now : Option Pages) (kept after : Kept) (item : Item) (start time : ℕ) → (b : Brought c told d now kept) → 1 ≤ kept.count
    → ((front : List Item) (i : Item) (back : List Item) → IsPageOf b.bytes (front ++ i ∷ back) → kept.start ≡ end_of front → (item ≡ i) × (start ≡ end_of (front ++ i ∷ [])))
    → (2 ≤ kept.count → (front : List Item) (i : Item) (back : List Item) → IsPageOf b.bytes (front ++ i ∷ back) → start ≡ end_of front → time ≡ i.time)
    → after ≡ record kept { start = start; count = kept.count - 1; time = time } → Taken c told d now kept after item
taken c told d now kept after item start time b some found timed is =
    let l = first-left b.bytes kept b.fits some in
    let at = found l.front l.item l.rest l.page l.starts in
    let page : IsPageOf b.bytes ((l.front ++ l.item ∷ []) ++ l.rest) = behind b.bytes l.front l.item l.rest l.page in
    let one : after.page ≡ kept.page = ap (λ (k : Kept). k.page) is in
    let here : page_seen d now after.page ≡ Some b.bytes = ap (λ (n : ℕ). page_seen d now n) one ∙ in-frame d now kept.page b.bytes b.there in
    let fit : FitsKept b.bytes after = record {
      front = l.front ++ l.item ∷ [];
      back = l.rest;
      page = page;
      starts = ap (λ (k : Kept). k.start) is ∙ at.1;
      counts = omega (arith, ap (λ (k : Kept). k.count) is, l.counts);
      ends = ap (λ (k : Kept). k.end) is ∙ l.ends ∙ ap end_of (sym (append_assoc l.front (l.item ∷ []) l.rest));
    } in
    let left : items_kept d now after ≡ l.rest = items-seen d now after b.bytes here fit in
    record {
      page = one;
      spares = b.spares;
      there = ap (λ (o : Option (List ℕ)). is_some o) b.there;
      held = b.held;
      fits = λ bytes known. subst (λ (x : List ℕ). FitsKept x after) (some_is _ _ (sym here ∙ known)) fit;
      ends = fits-low _ _ _ _ fit;
      count = omega (arith, ap (λ (k : Kept). k.count) is, some);
      items = λ t. items-seen c told kept b.bytes (b.same t) b.fits ∙ l.back_is ∙ ap (λ (i : Item). i ∷ l.rest) (sym at.0) ∙ ap (λ (xs : List Item). item ∷ xs) (sym left);
      time = λ t next rest e.
          let more : l.rest ≡ next ∷ rest = sym left ∙ e in
          ap (λ (k : Kept). k.time) is ∙ timed (omega (arith, l.counts, ap (λ (xs : List Item). length xs) more)) (l.front ++ l.item ∷ []) next rest
          (subst (λ (xs : List Item). IsPageOf b.bytes ((l.front ++ l.item ∷ []) ++ xs)) more page) at.1;
    }

-- the item that was found is the first that was left
pub first-of : (c : Pooled) (before now : DiskLog) (kept : Kept) (item : Item) (start : ℕ) (bytes : List ℕ) → FitsKept bytes kept → 1 ≤ kept.count → WereIn c before now kept.page bytes
    → ((front : List Item) (i : Item) (back : List Item) → IsPageOf bytes (front ++ i ∷ back) → kept.start ≡ end_of front → (item ≡ i) × (start ≡ end_of (front ++ i ∷ []))) → IsFirstOf c before now kept item
first-of c before now kept item start bytes fits some had found =
    let l = first-left bytes kept fits some in
    let at = found l.front l.item l.rest l.page l.starts in
    record {
      bytes = bytes;
      had = had;
      behind = l.rest;
      left = items-fit kept bytes fits ∙ l.back_is ∙ ap (λ (i : Item). i ∷ l.rest) (sym at.0);
    }

-- the bytes of a page that was brought
abbrev pub rebrought : (c : Pooled) (told : Option Pages) (d : Pooled) (now : Option Pages) (kept : Kept) → Brought c told d now kept → (bytes : List ℕ) → bytes_in kept.page d.resident ≡ Some bytes → Brought c told d now kept
rebrought c told d now kept b bytes e =
    let is : b.bytes ≡ bytes = some_is _ _ (sym b.there ∙ e) in
    record {
      bytes = bytes;
      there = e;
      fits = subst (λ (x : List ℕ). FitsKept x kept) is b.fits;
      held = b.held;
      same = λ t. b.same t ∙ ap (λ (x : List ℕ). Some x) is;
      spares = b.spares;
    }

-- ---- a new page

made-known : (c : Pooled) (told : Option Pages) (d : Pooled) (now : Option Pages) (p : ℕ) → IsMade c told d now p → (q : ℕ) → q ≢ p → (b : List ℕ) → bytes_in q d.resident ≡ Some b → bytes_in q c.resident ≡ Some b
made-known c told d now p m q other b e =
    let start : bytes_in q m.start.resident ≡ Some b = room-known m.start told m.mid now m.room q b (loaded-known m.mid d p zeros m.pool q other b e) in
    elim m.numbers [
      | inl same ↦ sym (ap (λ (x : Pooled). bytes_in q x.resident) same) ∙ start
      | inr more ↦ sym (ap (λ (x : Pooled). bytes_in q x.resident) more) ∙ start
    ]

made-same : (c : Pooled) (told : Option Pages) (d : Pooled) (now : Option Pages) (p : ℕ) → (Tells now → Tells told) → Makes c told d now p → Tells now → (q : ℕ) → q ≢ p → page_seen d now q ≡ page_seen c told q
made-same c told d None p tells k t q other = absurd cc
made-same c None d (Some n) p tells k t q other = let no : false ≡ true = tells t in absurd cc
made-same c (Some t) d (Some n) p tells k s q other = rw (eqb-other q p other) at (k.pages q)

made-seen : (c : Pooled) (told : Option Pages) (d : Pooled) (now : Option Pages) (p : ℕ) → (Tells now → Tells told) → IsMade c told d now p → Makes c told d now p → (q : ℕ) → q ≢ p → (b : List ℕ) → page_seen d now q ≡ Some b → page_seen c told q ≡ Some b
made-seen c told d None p tells m k q other b e = in-frame c told q b (made-known c told d None p m q other b e)
made-seen c told d (Some n) p tells m k q other b e = sym (made-same c told d (Some n) p tells k refl q other) ∙ e

made-spares : (c : Pooled) (told : Option Pages) (d : Pooled) (now : Option Pages) (p : ℕ) → (Tells now → Tells told) → IsMade c told d now p → Makes c told d now p → Agree d now → d.frames ≡ c.frames → LeavesOthers c told d now p
made-spares c told d now p tells m k agree frames =
    record {
      known = made-seen c told d now p tells m k;
      same = made-same c told d now p tells k;
      held = λ q other. rw (eqb-other q p other) at (k.numbers q);
      tells = tells;
      agree = agree;
      frames = frames;
    }

pub made-there : (c : Pooled) (told : Option Pages) (d : Pooled) (now : Option Pages) (p : ℕ) → IsMade c told d now p → bytes_in p d.resident ≡ Some zeros
made-there c told d now p m =
    let start : bytes_in p m.start.resident ≡ None = elim m.numbers [
      | inl same ↦ ap (λ (x : Pooled). bytes_in p x.resident) same ∙ m.out
      | inr more ↦ ap (λ (x : Pooled). bytes_in p x.resident) more ∙ m.out
    ] in
    ap (λ (x : Pooled). bytes_in p x.resident) m.pool ∙ bytes-last p zeros m.mid.resident (room-out m.start told m.mid now p m.room start)

pub zeros-end : (bytes : List ℕ) → ◌≡◌ {A = Option (List ℕ)} (Some zeros) (Some bytes) → EndsAt bytes 2
zeros-end bytes e = ([], empty_page bytes (sym (some_is _ _ e)), refl)

pub started : (c : Pooled) (told : Option Pages) (d : Pooled) (now : Option Pages) (e : Pooled) (kept : Kept) (item : Item) (w : List ℕ) (end : ℕ)
    → (Tells now → Tells told) → IsMade c told d now kept.page → Makes c told d now kept.page → Agree d now → d.frames ≡ c.frames → e ≡ rewritten d kept.page w
    → ((before : List ℕ) (items : List Item) → bytes_in kept.page d.resident ≡ Some before → IsPageOf before items → 2 ≡ end_of items → IsPageOf w (items ++ item ∷ []))
    → end ≡ 2 + length (item_bytes item) → kept ≡ record { page = kept.page; start = 2; count = 1; end = end; time = item.time } → Started c told e now kept item
started c told d now e kept item w end tells m k agree frames pool page ends is =
    let there = made-there c told d now kept.page m in
    let wrote : Written d now e now kept.page w = subst (λ (x : Pooled). Written d now x now kept.page w) (sym pool) (rewritten-written d now kept.page zeros w there agree) in
    let here : page_seen e now kept.page ≡ Some w = in-frame e now kept.page w wrote.there in
    let one : IsPageOf w (item ∷ []) = page zeros [] there (empty_page zeros refl) refl in
    let fit : FitsKept w kept = record {
      front = [];
      back = item ∷ [];
      page = one;
      starts = ap (λ (x : Kept). x.start) is;
      counts = ap (λ (x : Kept). x.count) is;
      ends = ap (λ (x : Kept). x.end) is ∙ ends ∙ sym (item_at_end [] item);
    } in
    record {
      fresh = k.fresh;
      spares = spares-then c told d now e now kept.page (made-spares c told d now kept.page tells m k agree frames) wrote.spares;
      held = wrote.held;
      fits = λ bytes known. subst (λ (x : List ℕ). FitsKept x kept) (some_is _ _ (sym here ∙ known)) fit;
      ends = fits-low _ _ _ _ fit;
      count = ap (λ (x : Kept). x.count) is;
      time = ap (λ (x : Kept). x.time) is;
      items = λ t. items-seen e now kept w here fit;
    }

-- ---- a page is let go

gone-same : (c : Pooled) (told : Option Pages) (d : Pooled) (now : Option Pages) (p : ℕ) → (Tells now → Tells told) → Drops c told d now p → Tells now → (q : ℕ) → q ≢ p → page_seen d now q ≡ page_seen c told q
gone-same c told d None p tells k t q other = absurd cc
gone-same c None d (Some n) p tells k t q other = let no : false ≡ true = tells t in absurd cc
gone-same c (Some t) d (Some n) p tells k s q other = rw (eqb-other q p other) at (k.pages q)

gone-seen : (c : Pooled) (told : Option Pages) (d : Pooled) (now : Option Pages) (p : ℕ) → (Tells now → Tells told) → LetsGo c d p → Drops c told d now p → (q : ℕ) → q ≢ p → (b : List ℕ) → page_seen d now q ≡ Some b → page_seen c told q ≡ Some b
gone-seen c told d None p tells l k q other b e = in-frame c told q b (sym (rw (eqb-other q p other) at (l.bytes q)) ∙ e)
gone-seen c told d (Some n) p tells l k q other b e = sym (gone-same c told d (Some n) p tells k refl q other) ∙ e

-- no page is there that was let go
pub gone-held : (c : Pooled) (told : Option Pages) (d : Pooled) (now : Option Pages) (p : ℕ) → Drops c told d now p → is_held d p ≡ false
gone-held c told d now p k = rw (eqb_itself p) at (k.numbers p)

pub gone-spares : (c : Pooled) (told : Option Pages) (d : Pooled) (now : Option Pages) (p : ℕ) → (Tells now → Tells told) → LetsGo c d p → Drops c told d now p → Agree d now → d.frames ≡ c.frames → LeavesOthers c told d now p
gone-spares c told d now p tells l k agree frames =
    record {
      known = gone-seen c told d now p tells l k;
      same = gone-same c told d now p tells k;
      held = λ q other. rw (eqb-other q p other) at (k.numbers q);
      tells = tells;
      agree = agree;
      frames = frames;
    }
