use Rattle.std.proofs.Common.{◌-◌, ◌++◌, [], length, replicate, slice_set, slice_index_or, refl, ap, sym, ◌∙◌}
use Rattle.std.specs.Prelude.{vec_capacity}
use Rattle.sq_pool.proofs.BlankLemmas.{written-at, written-again, length-set, within-at}
use Rattle.sq_pool.proofs.frames.Frames.frame_mut.Goals as goal

pub returns : goal.returns
returns c =
    let written = c.write_to.new.written in
    let blanks = replicate (vec_capacity written - length written.items) (replicate 8192 0) in
    let bytes = c.as_mut_slice.ensures.value ∙ c.index_mut.ensures.value in (
      (
        refl,
        λ w.
            ap (λ n. slice_set written.items c.args.f w ++ replicate (vec_capacity written - n) (replicate 8192 0)) (length-set written.items c.args.f w)
            ∙ sym (written-again written.items blanks c.args.f w c.write_to.ensures.there)
            ∙ ap (λ l. slice_set l c.args.f w) (c.write_to.ensures.same ∙ c.self.view_is),
      ),
      record {
        writes_back = tt;
        value =
            bytes ∙ within-at written.items c.args.f c.index_mut.result.now [] c.write_to.ensures.there
            ∙ sym (written-at written.items blanks c.args.f c.write_to.ensures.there) ∙ ap (λ l. slice_index_or l c.args.f []) (c.write_to.ensures.same ∙ c.self.view_is);
        whole =
            ap (λ l. length l) (bytes ∙ within-at written.items c.args.f c.index_mut.result.now c.index.result.now c.write_to.ensures.there ∙ sym c.index.ensures ∙ sym c.bytes_of-whole.ensures.value)
            ∙ c.bytes_of-whole.ensures.whole;
      },
    )
