-- What is answered to words, by the bytes of the network file.
use Rattle.std.specs.Prelude.{ℕ, List, Result, Ok, Err}
use Rattle.sq_net.specs.declared.Network.{Network}
use Rattle.sq_net.specs.declared.NetErr.{NetErr}
use Rattle.sq_reader.specs.Networks.{network_in}
use Rattle.sq_teller.specs.declared.Ending.TheVariants as status
use Rattle.sq_teller.specs.Replies.{Reply, Says, Refuses}
use Rattle.sq_slicer.specs.declared.SlicesAsked.{SlicesAsked}
use Rattle.sq_slicer.specs.Lines.{has_no_slices, slices_text}

abbrev pub slices_by : SlicesAsked → Result Network NetErr → Reply
slices_by a (Ok n) = Says (slices_text n a.delay) (has_no_slices n a.delay)
slices_by a (Err e) = Refuses (status.BadNetwork e)

abbrev pub slices_reply : SlicesAsked → List ℕ → Reply
slices_reply a bytes = slices_by a (network_in bytes)
