-- What an arc keeps, by its front and the face of its pages.
use Rattle.std.proofs.Common.{◌≡◌, ◌≢◌, ℕ, zero, suc, ◌+◌, ◌-◌, ◌<◌, ◌≤◌, Bool, true, false, cond, List, [], ◌∷◌, ◌++◌, Option, Some, None, length, refl, sym, ap, ◌∙◌, subst, arith}
use Rattle.std.proofs.Math.Dec.{eqb-suc-zero}
use Rattle.std.proofs.Math.ListN.{set}
use Rattle.std.specs.Prelude.{Result, Ok, Err, OnOk, OnErr, is_some, slice_get, unwrap_or}
use Rattle.std.specs.List.{AllByRecursion}
use Rattle.std.proofs.lemmas.List.Sums.{sum_by-cons, sum_by-append}
use Rattle.std.proofs.lemmas.List.{length-append, append-nil}
use Rattle.sq_item.specs.declared.Item.{Item}
use Rattle.sq_item.specs.SoundItems.{IsSoundItem}
use Rattle.sq_paged.specs.Faces.{is_first}
use Rattle.sq_paged.specs.Fronts.{Face, IsFaceOf, IsPopped, first_time, first_time_or, pushed}
use Rattle.sq_queue.specs.Faces.{room_of, rooms_of, face_at, front_at, behind_at, first_time_of, IsLane}
use Rattle.sq_queue.specs.declared.FrontLane.{FrontLane}
use Rattle.sq_paged.proofs.LaneLemmas.{first-given}
use Rattle.sq_words.proofs.Lists.{get_set_same, get_set_other}

pub on-ok-both : {T E P Q R : Type 0} (r : Result T E) → OnOk r P → OnOk r Q → (P → Q → R) → OnOk r R
on-ok-both (Ok x) p q f = f p q
on-ok-both (Err e) p q f = tt

pub on-err-both : {T E P Q R : Type 0} (r : Result T E) → OnErr r P → OnErr r Q → (P → Q → R) → OnErr r R
on-err-both (Ok x) p q f = tt
on-err-both (Err e) p q f = f p q

pub on-ok-three : {T E P Q R S : Type 0} (r : Result T E) → OnOk r P → OnOk r Q → OnOk r R → (P → Q → R → S) → OnOk r S
on-ok-three (Ok x) p q t f = f p q t
on-ok-three (Err e) p q t f = tt

pub on-err-three : {T E P Q R S : Type 0} (r : Result T E) → OnErr r P → OnErr r Q → OnErr r R → (P → Q → R → S) → OnErr r S
on-err-three (Ok x) p q t f = tt
on-err-three (Err e) p q t f = f p q t

-- what holds where a call went well and where it failed
pub on-either : {T E P : Type 0} (r : Result T E) → OnOk r P → OnErr r P → P
on-either (Ok x) ok err = ok
on-either (Err e) ok err = err

-- ---- the face of an arc is that of its items

first-of-all : (front items : List Item) (behind : Option ℕ) → behind ≡ first_time items → first_time_of front behind ≡ first_time (front ++ items)
first-of-all [] items behind h = h
first-of-all (x ∷ front) items behind h = refl

face-first : (lane : Option FrontLane) → (face_at lane).first ≡ first_time_of (front_at lane) (behind_at lane)
face-first None = refl
face-first (Some lane) = refl

pub lane-face : (lane : Option FrontLane) (paged : Face) (items : List Item) → IsLane lane paged → IsFaceOf paged items → IsFaceOf (face_at lane) (front_at lane ++ items)
lane-face lane paged items l f =
    record {
      count = omega (arith, l.count, f.count, length-append (front_at lane) items);
      first = face-first lane ∙ first-of-all (front_at lane) items (behind_at lane) (l.behind ∙ f.first);
    }

-- ---- an item behind the others in front

sound-append : (items : List Item) (item : Item) → IsSoundItem item → AllByRecursion IsSoundItem items → AllByRecursion IsSoundItem (items ++ item ∷ [])
sound-append [] item s h = (s, tt)
sound-append (x ∷ items) item s h = (h.0, sound-append items item s h.1)

-- how many bytes items take with one more behind or in front of them
rooms-behind : (items : List Item) (item : Item) → rooms_of (items ++ item ∷ []) ≡ rooms_of items + room_of item
rooms-behind items item = omega (arith, sum_by-append room_of items (item ∷ []), sum_by-cons room_of item [])

pub rooms-in-front : (front : List Item) (item : Item) (items : List Item) → front ≡ item ∷ items → rooms_of front ≡ room_of item + rooms_of items
rooms-in-front front item items is = ap rooms_of is ∙ sum_by-cons room_of item items

pub no-rooms : (front : List Item) (item : Item) (items : List Item) → front ≡ item ∷ items → length front ≤ 1 → rooms_of items ≤ 0
no-rooms front item [] is one = omega arith
no-rooms front item (x ∷ items) is one = absurd (omega (arith, ap length is, one))

-- a lane has one item more in front
pub record Appends (lane new : FrontLane) (item : Item) : Type 0 where
  pub front : new.front.items ≡ lane.front.items ++ item ∷ []
  pub count : new.count ≡ lane.count + 1
  pub behind : new.behind ≡ lane.behind

pub appended-lane : (lane new : FrontLane) (item : Item) (paged : Face) → IsLane (Some lane) paged → Appends lane new item → IsSoundItem item → length lane.front.items < 256
    → (bytes : ℕ) → bytes ≡ room_of item → new.held ≡ lane.held + bytes → lane.held + bytes ≤ 8192 → IsLane (Some new) paged
appended-lane lane new item paged l a sound room bytes takes held most =
    let more : length new.front.items ≡ length lane.front.items + 1 = ap length a.front ∙ length-append lane.front.items (item ∷ []) in
    let rooms : rooms_of new.front.items ≡ rooms_of lane.front.items + room_of item = ap rooms_of a.front ∙ rooms-behind lane.front.items item in
    record {
      count = omega (arith, l.count, a.count, more);
      behind = a.behind ∙ l.behind;
      runs = l.runs;
      few = omega (arith, more, room);
      held = omega (arith, l.held, rooms, takes, held);
      page = omega (arith, held, most);
      sound = subst (λ (xs : List Item). AllByRecursion IsSoundItem xs) (sym a.front) (sound-append lane.front.items item sound l.sound);
    }

-- an item that wasn't put in front
pub kept-lane : (lane new : FrontLane) (paged : Face) → IsLane (Some lane) paged → new.front.items ≡ lane.front.items → new.held ≡ lane.held → new.count ≡ lane.count → new.behind ≡ lane.behind → IsLane (Some new) paged
kept-lane lane new paged l front held count behind =
    let same : length new.front.items ≡ length lane.front.items = ap length front in
    let rooms : rooms_of new.front.items ≡ rooms_of lane.front.items = ap rooms_of front in
    record {
      count = omega (arith, l.count, count, same);
      behind = behind ∙ l.behind;
      runs = l.runs;
      few = omega (arith, l.few, same);
      held = omega (arith, l.held, rooms, held);
      page = omega (arith, l.page, held);
      sound = subst (λ (xs : List Item). AllByRecursion IsSoundItem xs) (sym front) l.sound;
    }

-- an item behind the front is behind all, where nothing else is there
pub appended-items : (front new items : List Item) (item : Item) → new ≡ front ++ item ∷ [] → items ≡ [] → new ++ items ≡ (front ++ items) ++ item ∷ []
appended-items front new items item e none =
    ap (λ (xs : List Item). new ++ xs) none ∙ append-nil new ∙ e ∙ ap (λ (xs : List Item). xs ++ item ∷ []) (sym (append-nil front) ∙ ap (λ (xs : List Item). front ++ xs) (sym none))

-- ---- an item behind the last in pages

pub pushed-behind : (lane new : FrontLane) (time : ℕ) (paged after : Face) → IsLane (Some lane) paged → after ≡ pushed paged time → new.front.items ≡ lane.front.items → new.held ≡ lane.held → new.count ≡ lane.count + 1 → new.behind ≡ Some (unwrap_or lane.behind time)
    → IsLane (Some new) after
pushed-behind lane new time paged after l e front held count behind =
    let more : after.count ≡ paged.count + 1 = ap (λ (f : Face). f.count) e in
    let same : length new.front.items ≡ length lane.front.items = ap length front in
    let rooms : rooms_of new.front.items ≡ rooms_of lane.front.items = ap rooms_of front in
    record {
      count = omega (arith, l.count, more, count, same);
      behind = behind ∙ first-given lane.behind time ∙ ap (λ (o : Option ℕ). first_time_or o time) l.behind ∙ sym (ap (λ (f : Face). f.first) e);
      runs = ap (λ (f : Face). f.ended) e ∙ l.runs;
      few = omega (arith, l.few, same);
      held = omega (arith, l.held, rooms, held);
      page = omega (arith, l.page, held);
      sound = subst (λ (xs : List Item). AllByRecursion IsSoundItem xs) (sym front) l.sound;
    }

-- ---- the first item in front goes

pub record Takes (lane new : FrontLane) (item : Item) : Type 0 where
  pub front : lane.front.items ≡ item ∷ new.front.items
  pub held : rooms_of new.front.items ≤ new.held
  pub less : new.held ≤ lane.held
  pub count : lane.count ≡ new.count + 1
  pub behind : new.behind ≡ lane.behind
  pub ended : new.ended ≡ lane.ended

pub front-counted : (lane : FrontLane) (paged : Face) → IsLane (Some lane) paged → length lane.front.items ≤ lane.count
front-counted lane paged l = omega (arith, l.count)

pub taken-sound : (lane new : FrontLane) (item : Item) (paged : Face) → IsLane (Some lane) paged → Takes lane new item → IsSoundItem item
taken-sound lane new item paged l t = (subst (λ (xs : List Item). AllByRecursion IsSoundItem xs) t.front l.sound).0

pub taken-lane : (lane new : FrontLane) (item : Item) (paged : Face) → IsLane (Some lane) paged → Takes lane new item → IsLane (Some new) paged
taken-lane lane new item paged l t =
    let less : length lane.front.items ≡ suc (length new.front.items) = ap length t.front in
    record {
      count = omega (arith, l.count, t.count, less);
      behind = t.behind ∙ l.behind;
      runs = l.runs;
      few = omega (arith, l.few, less);
      held = t.held;
      page = omega (arith, l.page, t.less);
      sound = (subst (λ (xs : List Item). AllByRecursion IsSoundItem xs) t.front l.sound).1;
    }

is-first-suc : (n : ℕ) → is_first (suc n) ≡ true
is-first-suc n = ap (λ (b : Bool). cond b false true) (eqb-suc-zero n)

pub none-first : (n : ℕ) → is_first n ≡ false → n ≡ 0
none-first zero e = refl
none-first (suc n) e = let no : true ≡ false = sym (is-first-suc n) ∙ e in absurd cc

-- a first stands exactly where items do, in front or in pages
some-of : (front : List Item) (behind : Option ℕ) (count paged : ℕ) → is_some behind ≡ is_first paged → count ≡ length front + paged → is_some (first_time_of front behind) ≡ is_first count
some-of [] behind count paged h c = let same : count ≡ paged = omega (arith, c) in h ∙ ap is_first (sym same)
some-of (x ∷ front) behind count paged h c = let more : count ≡ suc (length front + paged) = omega (arith, c) in sym (ap is_first more ∙ is-first-suc (length front + paged))

pub taken-face : (lane new : FrontLane) (item : Item) (paged : Face) → IsLane (Some lane) paged → is_some paged.first ≡ is_first paged.count → Takes lane new item → IsPopped (face_at (Some lane)) (face_at (Some new))
taken-face lane new item paged l first t =
    let after = taken-lane lane new item paged l t in
    record {
      count = t.count;
      first = some-of new.front.items new.behind new.count paged.count (ap is_some after.behind ∙ first) after.count;
      ended = t.ended;
    }

-- ---- the first item in pages goes, where none is in front

abbrev pub popped_lane : FrontLane → Option ℕ → FrontLane
popped_lane lane behind = record lane { count = lane.count - 1; behind = behind }

pub popped-lane : (lane : FrontLane) (behind : Option ℕ) (paged after : Face) → IsLane (Some lane) paged → IsPopped paged after → behind ≡ after.first → IsLane (Some (popped_lane lane behind)) after
popped-lane lane behind paged after l p e =
    record {
      count = omega (arith, l.count, p.count);
      behind = e;
      runs = p.ended ∙ l.runs;
      few = l.few;
      held = l.held;
      page = l.page;
      sound = l.sound;
    }

-- ---- the face of an arc whose lane was written, and those of the others

face-by : (f g : Face) → f.count ≡ g.count → f.first ≡ g.first → f.ended ≡ g.ended → f ≡ g
face-by f g count first ended =
    ap (λ (n : ℕ). record f { count = n }) count ∙ ap (λ (o : Option ℕ). record f { count = g.count; first = o }) first ∙ ap (λ (b : Bool). record g { ended = b }) ended

pub other-face : (lanes : List FrontLane) (arc other : ℕ) (new : FrontLane) → other ≢ arc → face_at (slice_get (set lanes arc new) other) ≡ face_at (slice_get lanes other)
other-face lanes arc other new differ = ap face_at (get_set_other lanes arc other new differ)

pub pushed-face : (lanes : List FrontLane) (arc : ℕ) (lane new : FrontLane) (time : ℕ) → arc < length lanes → slice_get lanes arc ≡ Some lane → face_at (Some new) ≡ pushed (face_at (Some lane)) time
    → face_at (slice_get (set lanes arc new) arc) ≡ pushed (face_at (slice_get lanes arc)) time
pushed-face lanes arc lane new time inside was own = ap face_at (get_set_same lanes arc new inside) ∙ own ∙ ap (λ (o : Option FrontLane). pushed (face_at o) time) (sym was)

pub popped-face : (lanes : List FrontLane) (arc : ℕ) (lane new : FrontLane) → arc < length lanes → slice_get lanes arc ≡ Some lane → IsPopped (face_at (Some lane)) (face_at (Some new))
    → IsPopped (face_at (slice_get lanes arc)) (face_at (slice_get (set lanes arc new) arc))
popped-face lanes arc lane new inside was own =
    subst (λ (o : Option FrontLane). IsPopped (face_at (slice_get lanes arc)) (face_at o)) (sym (get_set_same lanes arc new inside)) (subst (λ (o : Option FrontLane). IsPopped (face_at o) (face_at (Some new))) (sym was) own)

pub kept-face : (lanes : List FrontLane) (arc : ℕ) (lane new : FrontLane) → arc < length lanes → slice_get lanes arc ≡ Some lane → new.front.items ≡ lane.front.items → new.count ≡ lane.count → new.behind ≡ lane.behind → new.ended ≡ lane.ended
    → face_at (slice_get (set lanes arc new) arc) ≡ face_at (slice_get lanes arc)
kept-face lanes arc lane new inside was front count behind ended =
    ap face_at (get_set_same lanes arc new inside)
    ∙ face-by _ _ count (ap (λ (xs : List Item). first_time_of xs new.behind) front ∙ ap (λ (o : Option ℕ). first_time_of lane.front.items o) behind) ended
    ∙ sym (ap face_at was)

first-behind : (front : List Item) (behind : Option ℕ) (time : ℕ) → first_time_of front (Some (unwrap_or behind time)) ≡ first_time_or (first_time_of front behind) time
first-behind [] behind time = first-given behind time
first-behind (x ∷ front) behind time = refl

pub face-pushed-behind : (lane new : FrontLane) (time : ℕ) → new.front.items ≡ lane.front.items → new.count ≡ lane.count + 1 → new.behind ≡ Some (unwrap_or lane.behind time) → new.ended ≡ lane.ended
    → face_at (Some new) ≡ pushed (face_at (Some lane)) time
face-pushed-behind lane new time front count behind ended =
    face-by _ _ count
    (ap (λ (xs : List Item). first_time_of xs new.behind) front ∙ ap (λ (o : Option ℕ). first_time_of lane.front.items o) behind ∙ first-behind lane.front.items lane.behind time)
    ended

first-appended : (front : List Item) (item : Item) → first_time_of (front ++ item ∷ []) None ≡ first_time_or (first_time_of front None) item.time
first-appended [] item = refl
first-appended (x ∷ front) item = refl

pub face-appended : (lane new : FrontLane) (item : Item) (time : ℕ) → Appends lane new item → lane.behind ≡ None → new.ended ≡ lane.ended → item.time ≡ time → face_at (Some new) ≡ pushed (face_at (Some lane)) time
face-appended lane new item time a none ended same =
    face-by _ _ a.count
    (ap (λ (xs : List Item). first_time_of xs new.behind) a.front ∙ ap (λ (o : Option ℕ). first_time_of (lane.front.items ++ item ∷ []) o) (a.behind ∙ none) ∙ first-appended lane.front.items item
    ∙ ap (λ (o : Option ℕ). first_time_or (first_time_of lane.front.items o) item.time) (sym none) ∙ ap (λ (t : ℕ). first_time_or (first_time_of lane.front.items lane.behind) t) same)
    ended

pub face-popped-behind : (lane : FrontLane) (behind : Option ℕ) (paged after : Face) → IsLane (Some lane) paged → lane.front.items ≡ [] → IsPopped paged after → behind ≡ after.first → IsPopped (face_at (Some lane)) (face_at (Some (popped_lane lane behind)))
face-popped-behind lane behind paged after l empty p e =
    let none : length lane.front.items ≡ 0 = ap length empty in
    let left : lane.count - 1 ≡ after.count = omega (arith, l.count, none, p.count) in
    record {
      count = omega (arith, l.count, none, p.count);
      first = ap (λ (xs : List Item). is_some (first_time_of xs behind)) empty ∙ ap is_some e ∙ p.first ∙ ap is_first (sym left);
      ended = refl;
    }
