-- Two steps that read files, one after the other.
use Rattle.std.proofs.Common.{◌≡◌, Result, Ok, Err, sym, ap, ◌∙◌, subst}
use Rattle.std.proofs.lemmas.Bool.{false≢true}
use Rattle.pb_data.specs.UnlessOom.{UnlessOom, ◌>>=◌}
use Rattle.pb_place_types.specs.At.{At}
use Rattle.pb_place_types.specs.Counts.{Counts, up}
use Rattle.pb_place_types.specs.World.{World}
use Rattle.pb_workspace_package.specs.Causes.{UnlessFailed, ReadsOnly, OnlyLooks, is_outside}
use Rattle.pb_workspace_types.specs.declared.fault.LoadFault.{LoadFault}
use Rattle.pb_workspace_types.specs.declared.fault.LoadFault.TheVariants.{OutOfMemory}

-- an answer up to want of memory is told
pub gives_told : {A : Type 0} (result answer : Result A LoadFault) → UnlessOom OutOfMemory (λ x. x) result answer → UnlessFailed result answer
gives_told (Ok x) answer gives = gives
gives_told (Err e) answer gives = λ inside. gives (λ same. false≢true (sym inside ∙ ap is_outside same))

-- what the second step tells is told, where the first gave a value and changed nothing
pub told_step : {A B : Type 0} (next : World → A → Result B LoadFault) (first : Result A LoadFault) (w now : World) (x : A) (result : Result B LoadFault)
    → first ≡ Ok x → now ≡ w → UnlessFailed result (next now x) → UnlessFailed result (first >>= next w)
told_step next first w now x result is same told = subst (λ v. UnlessFailed result (v >>= next w)) (sym is) (subst (λ v. UnlessFailed result (next v x)) same told)

-- how the counters move over both
pub reads_step : {T : Type 0} (result : Result T LoadFault) (old mid new : Counts) → mid.failures ≡ old.failures → mid.starts ≡ old.starts → ReadsOnly result mid new → ReadsOnly result old new
reads_step (Ok x) old mid new f s r = (r.0 ∙ f, r.1 ∙ s)
reads_step (Err e) old mid new f s r = (r.0 ∙ s, (λ n. r.1 n ∙ f), (λ y. r.2 y ∙ ap up f), r.3, r.4, r.5, r.6)

-- two steps that only look are one
pub quiet_step : {A T : Type 0} (x : A) (result : Result T LoadFault) (old mid new : At) → OnlyLooks (Ok x) old mid → OnlyLooks result mid new → OnlyLooks result old new
quiet_step x result old mid new one two = record {
  world = two.world ∙ one.world;
  most = two.most ∙ one.most;
  still = λ ticket stood. two.still ticket (one.still ticket stood);
  reads = reads_step result old.counts mid.counts new.counts one.reads.0 one.reads.1 two.reads;
}
