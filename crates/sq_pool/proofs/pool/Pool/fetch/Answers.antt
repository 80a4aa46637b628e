use Rattle.std.proofs.Common.{true, false, ◌≡◌, ℕ, List, Option, Some, refl, sym, ap, subst, ◌∙◌}
use Rattle.sha2.specs.Sha256.{sha256}
use Rattle.sq_outside.specs.Disks.{DiskLog}
use Rattle.sq_pool.specs.Errors.{IsLastPut}
use Rattle.sq_pool.specs.Trust.{known, IsLater}
use Rattle.sq_pool.specs.Pools.{Pooled, bytes_in, with_bytes}
use Rattle.sq_pool.proofs.PoolLemmas.{is-some}
use Rattle.sq_pool.proofs.MapLemmas.{room-out, room-told, holds_page, same_digest, came_back, put_before, stays_known, written, loaded-bytes}
use Rattle.sq_pool.proofs.TrustLemmas.{came-got, IsLater-trans, IsLater-get}
use Rattle.sq_pool.proofs.pool.Pool.fetch.Goals as goal

pub open_frame-requires-clause-out : goal.open_frame-requires-clause-out
open_frame-requires-clause-out g c = room-out _ _ _ _ c.args.page c.in_ok-make_room.ensures.ok c.requires.out

pub page_mut-requires : goal.page_mut-requires
page_mut-requires g c =
    let out = room-out _ _ _ _ c.args.page c.in_ok-make_room.ensures.ok c.requires.out in
    is-some _ c.open_frame.ensures.0 (ap (λ (x : Pooled). bytes_in c.args.page x.resident) c.open_frame.ensures.1 ∙ loaded-bytes c.make_room.new.self c.args.page c.open_frame.ensures.0 out)

pub get-requires-clause-held : goal.get-requires-clause-held
get-requires-clause-held g c =
    holds_page (g.D.PageDisk.log c.make_room.new.disk) c.args.page c.args.kept.0 (room-told _ _ _ _ c.args.page c.args.kept.0 c.in_ok-make_room.ensures.ok c.requires.agree c.requires.out c.requires.kept)

pub page-requires : goal.page-requires
page-requires g c =
    let mid = c.make_room.new.self in
    let out = room-out _ _ _ _ c.args.page c.in_ok-make_room.ensures.ok c.requires.out in
    let now = ap (λ (x : Pooled). record x { resident = with_bytes c.args.page c.get.new.into x.resident }) c.open_frame.ensures.1 ∙ written mid c.args.page c.open_frame.ensures.0 c.get.new.into out in
    is-some _ c.get.new.into (ap (λ (x : Pooled). bytes_in c.args.page x.resident) now ∙ loaded-bytes mid c.args.page c.get.new.into out)

got_bytes : {o : Option (List ℕ)} (a b : List ℕ) → o ≡ Some a → o ≡ Some b → a ≡ b
got_bytes {o} a b e f = let same : Some a ≡ Some b = sym e ∙ f in cc

pub returns-then-not-are_same-clause-honest : goal.returns-then-not-are_same-clause-honest
returns-then-not-are_same-clause-honest g c = λ honest.
    let mid = c.make_room.new.self in
    let out = room-out _ _ _ _ c.args.page c.in_ok-make_room.ensures.ok c.requires.out in
    let now = ap (λ (x : Pooled). record x { resident = with_bytes c.args.page c.get.new.into x.resident }) c.open_frame.ensures.1 ∙ written mid c.args.page c.open_frame.ensures.0 c.get.new.into out in
    let read = got_bytes c.page.result.now c.get.new.into c.page.ensures.value (ap (λ (x : Pooled). bytes_in c.args.page x.resident) now ∙ loaded-bytes mid c.args.page c.get.new.into out) in
    let still = c.make_room.ensures.later.honest ∙ honest in
    let digest = same_digest (g.D.PageDisk.log c.make_room.new.disk) c.args.page c.args.kept.0 c.get.new.into
    (room-told _ _ _ _ c.args.page c.args.kept.0 c.in_ok-make_room.ensures.ok c.requires.agree c.requires.out c.requires.kept) still (c.in-Ok.ensures.honest still) in
    let same : c.args.kept.0 ≡ c.digest_of-got.result.0 = sym digest ∙ ap sha256 (sym read) ∙ sym c.digest_of-got.ensures in
    absurd (true_false (sym (c.are_same.ensures.1 same) ∙ c.if-not-are_same.true))
  where
    true_false : true ≡ false → ⊥
    true_false e = cc

pub returns-then-not-are_same-clause-garbled : goal.returns-then-not-are_same-clause-garbled
returns-then-not-are_same-clause-garbled g c =
    let mid = c.make_room.new.self in
    let out = room-out _ _ _ _ c.args.page c.in_ok-make_room.ensures.ok c.requires.out in
    let now = ap (λ (x : Pooled). record x { resident = with_bytes c.args.page c.get.new.into x.resident }) c.open_frame.ensures.1 ∙ written mid c.args.page c.open_frame.ensures.0 c.get.new.into out in
    let there = ap (λ (x : Pooled). bytes_in c.args.page x.resident) now ∙ loaded-bytes mid c.args.page c.get.new.into out in
    let read = got_bytes c.page.result.now c.get.new.into c.page.ensures.value there in (
      refl,
      c.requires.kept,
      (
        c.get.new.into,
        record { there = there; came = came-got _ _ _ c.args.page c.get.new.into c.make_room.ensures.later c.in-Ok.ensures.ok },
        ap sha256 (sym read) ∙ sym c.digest_of-got.ensures,
      ),
      λ same. true_false (sym (c.are_same.ensures.1 same) ∙ c.if-not-are_same.true),
      subst (λ (log : DiskLog). IsLastPut log c.args.page c.args.kept.0) (sym c.in-Ok.ensures.ok)
          (put_before (g.D.PageDisk.log c.make_room.new.disk) c.args.page c.args.kept.0 c.get.new.into
          (room-told _ _ _ _ c.args.page c.args.kept.0 c.in_ok-make_room.ensures.ok c.requires.agree c.requires.out c.requires.kept)),
    )
  where
    true_false : true ≡ false → ⊥
    true_false e = cc

pub returns-clause-came : goal.returns-clause-came
returns-clause-came g c =
    let mid = c.make_room.new.self in
    let out = room-out _ _ _ _ c.args.page c.in_ok-make_room.ensures.ok c.requires.out in
    let now = ap (λ (x : Pooled). record x { resident = with_bytes c.args.page c.get.new.into x.resident }) c.open_frame.ensures.1 ∙ written mid c.args.page c.open_frame.ensures.0 c.get.new.into out in
    let there = ap (λ (x : Pooled). bytes_in c.args.page x.resident) now ∙ loaded-bytes mid c.args.page c.get.new.into out in
    let read = got_bytes c.page.result.now c.get.new.into c.page.ensures.value there in
    let same = ap sha256 (sym read) ∙ sym c.digest_of-got.ensures ∙ sym (c.are_same.ensures.0 c.if-not-are_same.false) in (
      c.get.new.into,
      (
        record { there = there; came = came-got _ _ _ c.args.page c.get.new.into c.make_room.ensures.later c.in-Ok.ensures.ok },
        c.requires.kept ∙ ap (λ (d : List ℕ). Some d) (sym same),
        subst (λ (log : DiskLog). IsLastPut log c.args.page (sha256 c.get.new.into)) (sym c.in-Ok.ensures.ok)
            (put_before (g.D.PageDisk.log c.make_room.new.disk) c.args.page (sha256 c.get.new.into) c.get.new.into
            (room-told _ _ _ _ c.args.page (sha256 c.get.new.into) c.in_ok-make_room.ensures.ok c.requires.agree c.requires.out (c.requires.kept ∙ ap (λ (d : List ℕ). Some d) (sym same)))),
      ),
    )

pub returns-clause-ok : goal.returns-clause-ok
returns-clause-ok g c =
    let mid = c.make_room.new.self in
    let out = room-out _ _ _ _ c.args.page c.in_ok-make_room.ensures.ok c.requires.out in
    let now = ap (λ (x : Pooled). record x { resident = with_bytes c.args.page c.get.new.into x.resident }) c.open_frame.ensures.1 ∙ written mid c.args.page c.open_frame.ensures.0 c.get.new.into out in
    let read = got_bytes c.page.result.now c.get.new.into c.page.ensures.value (ap (λ (x : Pooled). bytes_in c.args.page x.resident) now ∙ loaded-bytes mid c.args.page c.get.new.into out) in
    let same = ap sha256 (sym read) ∙ sym c.digest_of-got.ensures ∙ sym (c.are_same.ensures.0 c.if-not-are_same.false) in
    let before = g.D.PageDisk.log c.make_room.new.disk in
    record {
      mid = mid;
      between = known before;
      room = c.in_ok-make_room.ensures.ok;
      stays = rw c.in-Ok.ensures.ok (stays_known before c.args.page c.get.new.into);
      bytes = c.get.new.into;
      same = same;
      disk = rw c.in-Ok.ensures.ok (came_back before c.args.page c.args.kept.0 c.get.new.into
          (room-told _ _ _ _ c.args.page c.args.kept.0 c.in_ok-make_room.ensures.ok c.requires.agree c.requires.out c.requires.kept) c.in-Ok.ensures.honest same);
      pool = now;
    }

pub returns-then-not-are_same-clause-later : goal.returns-then-not-are_same-clause-later
returns-then-not-are_same-clause-later g c = IsLater-trans _ _ _ c.make_room.ensures.later (subst (IsLater _) (sym c.in-Ok.ensures.ok) (IsLater-get _ c.args.page c.get.new.into))

pub returns-clause-later : goal.returns-clause-later
returns-clause-later g c = IsLater-trans _ _ _ c.make_room.ensures.later (subst (IsLater _) (sym c.in-Ok.ensures.ok) (IsLater-get _ c.args.page c.get.new.into))
