-- How a call ends, and how it ends where memory ran out for its message.
use Rattle.std.proofs.Common.{◌≡◌, ◌≢◌, ℕ, true, false, List, refl, inl, inr}
use Rattle.sq_net.specs.declared.NetErr.TheVariants as net
use Rattle.sq_teller.specs.declared.Ending.{Ending}
use Rattle.sq_teller.specs.declared.Ending.TheVariants as status
use Rattle.sq_teller.specs.Replies.{Reply, Says, Refuses, IsRefused}
use Rattle.sq_teller.specs.Ends.{EndsAsked, EndsBy, EndsUnasked, IsEndingTold, Surroundings}

memory_ends : (answer : Reply) (w : Surroundings) (result : Ending) → result ≡ status.Memory → w.out_now ≡ w.out_before → EndsBy answer w result
memory_ends (Says text lost) w result e same = inr (e, same)
memory_ends (Refuses broken) w result e same = (inr e, same)

pub refused_ends : (answer : Reply) (w : Surroundings) (result : Ending) → IsRefused answer result → w.out_now ≡ w.out_before → EndsBy answer w result
refused_ends answer w result (inl e) same = rw e (inl refl, same)
refused_ends answer w result (inr e) same = memory_ends answer w result e same

-- at a status of neither a text nor the output nothing is written
untouched : (answer : Reply) (w : Surroundings) (result : Ending) → result ≢ status.Ok → result ≢ status.Lost → result ≢ status.SinkFault
    → EndsBy answer w result → w.out_now ≡ w.out_before
untouched (Says text true) w result ok lost sink (inl (inl (e, wrote))) = absurd (lost e)
untouched (Says text false) w result ok lost sink (inl (inl (e, wrote))) = absurd (ok e)
untouched (Says text b) w result ok lost sink (inl (inr (e, rose, wrote))) = absurd (sink e)
untouched (Says text b) w result ok lost sink (inr (e, same)) = same
untouched (Refuses broken) w result ok lost sink (e, same) = same

pub asked_told : (net : List ℕ) (reply : List ℕ → Reply) (w : Surroundings) (result told : Ending) → IsEndingTold result told → EndsAsked net reply w result → EndsAsked net reply w told
asked_told net reply w result told (inl e) ends = rw e ends
asked_told net reply w result told (inr (m, ok, lost, sink)) (inl (unread, read, same)) = inl (inl m, read, same)
asked_told net reply w result told (inr (m, ok, lost, sink)) (inr (bytes, read, faultless, ends)) =
    inr (bytes, read, faultless, memory_ends (reply bytes) w told m (untouched (reply bytes) w result ok lost sink ends))

pub unasked_told : (w : Surroundings) (result told : Ending) → IsEndingTold result told → EndsUnasked w result → EndsUnasked w told
unasked_told w result told (inl e) ends = rw e ends
unasked_told w result told (inr (m, ok, lost, sink)) (s, uncalled, same) = (inr m, uncalled, same)

-- where memory ran out for the words nothing is said of what they ask for
pub memory_unasked : (net : List ℕ) (reply : List ℕ → Reply) (w : Surroundings) (result : Ending) → result ≡ status.Memory → EndsUnasked w result → EndsAsked net reply w result
memory_unasked net reply w result m (s, uncalled, same) = inl (inl m, uncalled.read, same)

pub told_no_memory : (result told : Ending) → IsEndingTold result told → result ≢ status.BadNetwork net.Memory → told ≢ status.BadNetwork net.Memory
told_no_memory result told (inl e) not = rw e not
told_no_memory result told (inr (m, ok, lost, sink)) not = λ e. cc
