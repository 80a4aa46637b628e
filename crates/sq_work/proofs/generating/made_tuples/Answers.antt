use Rattle.std.proofs.Common.{◌≡◌, ◌+◌, ℕ, List, ◌∙◌, ap, arith, length, map, sym}
use Rattle.std.proofs.lemmas.List.{length-map, length_push}
use Rattle.sq_net.specs.declared.Source.{Source}
use Rattle.sq_replay.specs.Streams.{stream_in}
use Rattle.sq_work.proofs.MadeLemmas.{made_all, made_bad, made_on}
use Rattle.sq_work.proofs.SourceLemmas.{front_source, last_source, recorded_all, recorded_next, source_sound}
use Rattle.sq_work.proofs.StoppedLemmas.{few_sources}
use Rattle.sq_work.proofs.generating.made_tuples.Goals as goal

pub push_stream-requires-clause-within : goal.push_stream-requires-clause-within
push_stream-requires-clause-within c =
    let split = sym c.as_slice.ensures ∙ c.in-Some.ensures.cases.0 in
    let at = front_source c.args.network.now.sources c.in-Some.others.now c.in-Some.last.now split c.sources.source-index c.source-item.result c.sources-test.true c.source-item.is in
    source_sound c.args.network.now c.sources.source-index c.source-item.result c.requires.sound at

pub push_stream-requires-clause-counted : goal.push_stream-requires-clause-counted
push_stream-requires-clause-counted c =
    let long : length c.as_slice.result.now ≡ length c.args.network.now.sources = ap (λ (ss : List Source). length ss) c.as_slice.ensures in
    omega (arith, long, few_sources c.args.network.now c.requires.sound, c.in-Some.ensures.cases.1, c.sources-test.true, c.sources.invariant.counted, length-map c.sources.streams.items (λ xs. xs.items))

pub returns-in-Err-clause-bad : goal.returns-in-Err-clause-bad
returns-in-Err-clause-bad c =
    let split = sym c.as_slice.ensures ∙ c.in-Some.ensures.cases.0 in
    let at = front_source c.args.network.now.sources c.in-Some.others.now c.in-Some.last.now split c.sources.source-index c.source-item.result c.sources-test.true c.source-item.is in
    made_bad c.args.text.items c.args.network.now.sources (map (λ xs. xs.items) c.sources.streams.items) c.sources.source-index c.source-item.result at c.sources.invariant.counted c.sources.invariant.leads
    (length c.sources.streams.items) c.in-Err.stopped.status _ (sym (length-map c.sources.streams.items (λ xs. xs.items)))
    (rw (c.in-Ok.ensures.items ∙ c.as_slice-in-sources.ensures.value) at c.in-Err.ensures.bad)

pub sources-preserved : goal.sources-preserved
sources-preserved c =
    let all = c.args.network.now.sources in
    let vs = map (λ xs. xs.items) c.sources.streams.items in
    let s = c.source-item.result in
    let split = sym c.as_slice.ensures ∙ c.in-Some.ensures.cases.0 in
    let at = front_source all c.in-Some.others.now c.in-Some.last.now split c.sources.source-index s c.sources-test.true c.source-item.is in
    let read = c.in-Ok-push_stream.ensures.read in
    let said = ap (λ (bytes : List ℕ). stream_in s.schema bytes) (sym (c.in-Ok.ensures.items ∙ c.as_slice-in-sources.ensures.value)) ∙ read.1 in
    record {
      leads = λ r. rw read.3 (made_on c.args.text.items all vs c.sources.source-index s at c.sources.invariant.counted c.sources.invariant.leads read.0 said r);
      recorded = rw read.3 (recorded_next all c.sources.source-index s vs read.0 at c.sources.invariant.recorded read.2);
      counted = ap length read.3 ∙ length_push vs read.0 ∙ ap (λ k. k + 1) c.sources.invariant.counted;
    }

pub returns-in-Ok-push_stream-2-clause-made : goal.returns-in-Ok-push_stream-2-clause-made
returns-in-Ok-push_stream-2-clause-made c =
    let all = c.args.network.now.sources in
    let i = c.sources.source-index in
    let s = c.in-Some.last.now in
    let at = last_source all c.in-Some.others.now s (sym c.as_slice.ensures ∙ c.in-Some.ensures.cases.0) i (omega (arith, c.sources-test.false, c.sources.auto.source-index-end)) in
    let long : length c.as_slice.result.now ≡ length c.args.network.now.sources = ap (λ (ss : List Source). length ss) c.as_slice.ensures in
    let read = c.in-Ok-push_stream-2.ensures.read in
    λ r. rw read.3
    (made_all c.args.text.items all (map (λ xs. xs.items) c.sources.streams.items) i s at c.sources.invariant.counted c.sources.invariant.leads read.0 read.1
    (omega (arith, long, c.in-Some.ensures.cases.1, c.sources-test.false)) r)

pub returns-in-Ok-push_stream-2-clause-recorded : goal.returns-in-Ok-push_stream-2-clause-recorded
returns-in-Ok-push_stream-2-clause-recorded c =
    let all = c.args.network.now.sources in
    let i = c.sources.source-index in
    let s = c.in-Some.last.now in
    let at = last_source all c.in-Some.others.now s (sym c.as_slice.ensures ∙ c.in-Some.ensures.cases.0) i (omega (arith, c.sources-test.false, c.sources.auto.source-index-end)) in
    let long : length c.as_slice.result.now ≡ length c.args.network.now.sources = ap (λ (ss : List Source). length ss) c.as_slice.ensures in
    let read = c.in-Ok-push_stream-2.ensures.read in
    rw read.3
    (recorded_all all i s (map (λ xs. xs.items) c.sources.streams.items) read.0 at (omega (arith, long, c.in-Some.ensures.cases.1, c.sources-test.false)) c.sources.invariant.recorded read.2)

pub returns-in-Err-push_stream-clause-bad : goal.returns-in-Err-push_stream-clause-bad
returns-in-Err-push_stream-clause-bad c =
    let i = c.sources.source-index in
    let s = c.in-Some.last.now in
    let split = sym c.as_slice.ensures ∙ c.in-Some.ensures.cases.0 in
    let at = last_source c.args.network.now.sources c.in-Some.others.now s split i (omega (arith, c.sources-test.false, c.sources.auto.source-index-end)) in
    made_bad c.args.text.items c.args.network.now.sources (map (λ xs. xs.items) c.sources.streams.items) i s at c.sources.invariant.counted c.sources.invariant.leads
    (length c.sources.streams.items) c.in-Err-push_stream.stopped.status _ (sym (length-map c.sources.streams.items (λ xs. xs.items))) c.in-Err-push_stream.ensures.bad
