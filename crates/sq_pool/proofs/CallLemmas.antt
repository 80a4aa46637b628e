-- The public calls, seen as pools.
use Rattle.std.proofs.Common.{◌≡◌, ℕ, ◌∷◌, ◌++◌, [], List, Option, Some, None, refl, sym, ap, subst, ◌∙◌}
use Rattle.std.proofs.Math.ListN.{set}
use Rattle.sq_words.specs.Lists.{nth}
use Rattle.sq_outside.specs.Disks.{Pages}
use Rattle.sq_pool.specs.Slots.{Slotted, frame_in, without_page, digest_at}
use Rattle.sq_pool.specs.Pools.{Pooled, pooled, bytes_in, with_bytes, loaded, HasFrameLeft, Fetches, Keeps, Makes, Drops, IsLast, zeros, IsNumbered, IsMade, Brings, Touched, LetsGo}
use Rattle.sq_pool.proofs.PoolLemmas.{bytes-frame, touched, dropped, out-of-frames}
use Rattle.sq_pool.proofs.MapLemmas.{keeps-touched, drops-resident, drops-spilled, makes, started, room-out, written, lets-resident-go, lets-spilled-go}
use Rattle.sq_pool.proofs.TrustWords.{pages_without}

pub keeps-touch : (slots : Slotted) (frames : List (List ℕ)) (told : Option Pages) (p f : ℕ) → frame_in p slots.order ≡ Some f
    → Keeps (pooled slots frames) told (pooled (record slots { order = without_page p slots.order ++ (p, f) ∷ [] }) frames) told
keeps-touch slots frames told p f e =
    subst (λ (x : Pooled). Keeps (pooled slots frames) told x told) (sym (touched slots frames p f))
    (keeps-touched (pooled slots frames) told p (nth frames f) (bytes-frame frames slots.order p f e))

pub drops-release : (slots : Slotted) (frames : List (List ℕ)) (told : Option Pages) (p : ℕ)
    → Drops (pooled slots frames) told (pooled (record slots { order = without_page p slots.order; kept = set slots.kept p None }) frames) told p
drops-release slots frames told p =
    subst (λ (x : Pooled). Drops (pooled slots frames) told x told p) (sym (dropped slots frames p)) (drops-resident (pooled slots frames) told p)

pub drops-given : (slots : Slotted) (frames : List (List ℕ)) (told now : Option Pages) (p : ℕ) → frame_in p slots.order ≡ None → now ≡ pages_without told p
    → Drops (pooled slots frames) told (pooled (record slots { kept = set slots.kept p None }) frames) now p
drops-given slots frames told now p e is = drops-spilled (pooled slots frames) told now p (out-of-frames slots frames p e) is

pub made-makes : (c : Pooled) (told : Option Pages) (d : Pooled) (now : Option Pages) (p : ℕ) → IsMade c told d now p → Makes c told d now p
made-makes c told d now p m = subst (λ (x : Pooled). Makes c told x now p) (sym m.pool) (makes c told m.start m.mid now p (started c told m.start p m.numbers m.out m.gone) m.room)

pub made-last : (c : Pooled) (told : Option Pages) (d : Pooled) (now : Option Pages) (p : ℕ) → IsMade c told d now p → IsLast p d
made-last c told d now p m = (m.mid.resident, zeros, ap (λ (x : Pooled). x.resident) m.pool)

pub opened-bytes : (mid opened : Pooled) (p : ℕ) (old w : List ℕ) → opened ≡ loaded mid p old → bytes_in p mid.resident ≡ None
    → ◌≡◌ {A = Pooled} (record opened { resident = with_bytes p w opened.resident }) (loaded mid p w)
opened-bytes mid opened p old w e out = ap (λ (x : Pooled). record x { resident = with_bytes p w x.resident }) e ∙ written mid p old w out

pub made-by : (c : Pooled) (told : Option Pages) (start : Pooled) (p : ℕ) (mid : Pooled) (now : Option Pages) (opened : Pooled) (old w : List ℕ) → IsNumbered c start
    → bytes_in p c.resident ≡ None → digest_at c.kept p ≡ None → HasFrameLeft start told mid now → opened ≡ loaded mid p old → w ≡ zeros
    → IsMade c told (record opened { resident = with_bytes p w opened.resident }) now p
made-by c told start p mid now opened old w numbers none gone room is clear =
    let out = room-out start told mid now p room (started c told start p numbers none gone).out in
    record {
      start = start;
      numbers = numbers;
      mid = mid;
      room = room;
      out = none;
      gone = gone;
      pool = opened-bytes mid opened p old w is out ∙ ap (λ (bs : List ℕ). loaded mid p bs) clear;
    }

pub fetched-last : (c : Pooled) (told : Option Pages) (d : Pooled) (now : Option Pages) (p : ℕ) (digest : List ℕ) → Fetches c told d now p digest → IsLast p d
fetched-last c told d now p digest f = (f.mid.resident, f.bytes, ap (λ (x : Pooled). x.resident) f.pool)

pub touches : (slots : Slotted) (frames : List (List ℕ)) (told : Option Pages) (p f : ℕ) → frame_in p slots.order ≡ Some f
    → Brings (pooled slots frames) told (pooled (record slots { order = without_page p slots.order ++ (p, f) ∷ [] }) frames) told p
touches slots frames told p f e = Touched (nth frames f) (bytes-frame frames slots.order p f e) (touched slots frames p f) refl

pub release-goes : (slots : Slotted) (frames : List (List ℕ)) (p : ℕ) → LetsGo (pooled slots frames) (pooled (record slots { order = without_page p slots.order; kept = set slots.kept p None }) frames) p
release-goes slots frames p = subst (λ (x : Pooled). LetsGo (pooled slots frames) x p) (sym (dropped slots frames p)) (lets-resident-go (pooled slots frames) p)

pub given-goes : (slots : Slotted) (frames : List (List ℕ)) (p : ℕ) → frame_in p slots.order ≡ None → LetsGo (pooled slots frames) (pooled (record slots { kept = set slots.kept p None }) frames) p
given-goes slots frames p e = lets-spilled-go (pooled slots frames) p (out-of-frames slots frames p e)
