use Rattle.std.proofs.Common.{◌≡◌, ◌∙◌, ap, length, map}
use Rattle.std.proofs.lemmas.Result.{IfOk-weaker}
use Rattle.sq_points.specs.Points.{drops_in}
use Rattle.sq_model.specs.FullStreams.{full_streams}
use Rattle.sq_verdict.specs.Wanting.{verdict_of}
use Rattle.sq_audit.specs.Audits.{wanted_of}
use Rattle.sq_audit.proofs.auditing.audit_text.Goals as goal

pub returns : goal.returns
returns c =
    let n = c.args.n.now in
    let text = c.args.text.now in
    let sources = map (λ t. t.items) c.args.sources.now in
    let drops = length c.as_slice-3.result.now in
    let wanted = c.as_slice-4.ensures.value ∙ c.in_ok-wanted.ensures in
    let streams = ap (map (λ t. t.items)) c.as_slice-5.ensures.value ∙ c.in_ok-streams.ensures
    ∙ ap (full_streams n) c.in_ok-copies.ensures in
    let many : drops ≡ drops_in n = ap (λ ps. length ps) (c.as_slice-3.ensures.value ∙ c.in_ok-points.ensures) in
    IfOk-weaker c.verdict_of.result _ _
    (λ v h.
    h
    ∙ ap (λ os. verdict_of os (map (λ t. t.items) c.as_slice-5.result.now) drops text) wanted
    ∙ ap (λ ss. verdict_of (wanted_of n) ss drops text) streams
    ∙ ap (λ k. verdict_of (wanted_of n) (full_streams n sources) k text) many)
    c.verdict_of.ensures
