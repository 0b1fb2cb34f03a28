-- A look at what a build would start, and a look behind a build: what stays as it was.
use Rattle.std.proofs.Common.{◌≡◌, ◌⊎◌, ◌∙◌, ℕ, Bool, IsTrue, List, Option, Result, Ok, Err, refl, ap, inl, inr}
use Rattle.pb_build.specs.AnyPlan.{Readies}
use Rattle.pb_build.specs.Causes.{MayReady}
use Rattle.pb_build.specs.declared.builder.BuildPlan.{BuildPlan}
use Rattle.pb_build.specs.declared.builder.Prepared.{Prepared}
use Rattle.pb_build_result.specs.declared.fault.BuildFault.{BuildFault}
use Rattle.pb_build_result.specs.declared.fault.BuildFault.TheVariants.{Plan, Toolchain, Child, Device, Sink, OutOfMemory}
use Rattle.pb_build_result.specs.declared.fault.DeviceFault.TheVariants as device
use Rattle.pb_build_result.specs.declared.summary.Summary.{Summary}
use Rattle.pb_build_turns.specs.Executor.{BuildState}
use Rattle.pb_place_types.specs.Counts.{Counts, Starts, up_starts}
use Rattle.pb_place_types.specs.Sinks.{SinkState}
use Rattle.pb_place_types.specs.World.{World, Answers}
use Rattle.pb_tool_arguments.specs.declared.invocation.Shown.{Shown}
use Rattle.pb_tool_program.specs.Building.{LooksTwice}
use Rattle.pb_tool_program.specs.Planning.{EndsPlan, PlanFails}
use Rattle.pb_tool_program.specs.Previewing.{ForetellsIf, LooksAhead}
use Rattle.pb_tool_program.specs.Shown.{ShownChangesNothing}
use Rattle.pb_workspace_types.specs.declared.options.Options.{Options}

-- no child was started, or one
abbrev pub AtMostOne : Starts → Starts → Type 0
AtMostOne old new = (new ≡ old) ⊎ (new ≡ up_starts old)

-- the query starts one, unless memory runs out before
may_start : (fault : BuildFault) (old new : Starts) → MayReady fault old new → AtMostOne old new
may_start (Plan why) old new may = absurd may
may_start Toolchain old new may = inr may
may_start (Child unit fault) old new may = inr may.1
may_start (Device unit (device.Place fault)) old new may = inr may
may_start (Device unit device.NumbersSpent) old new may = absurd may
may_start Sink old new may = absurd may
may_start OutOfMemory old new may = may

ready_starts : (is_modelled : Bool) (child : Answers) (options : Options) (plan : Result BuildPlan BuildFault) (prepared : Result Prepared BuildFault) (old new : BuildState)
    → Readies is_modelled child options plan prepared old new → AtMostOne old.counts.starts new.counts.starts
ready_starts is_modelled child options (Err fault) prepared old new readies = inl (ap (λ (s : BuildState). s.counts.starts) readies.1)
ready_starts is_modelled child options (Ok plan) (Err fault) old new readies = may_start fault old.counts.starts new.counts.starts readies.may
ready_starts is_modelled child options (Ok plan) (Ok prepared) old new readies = inr readies.starts

ready_world : (is_modelled : Bool) (child : Answers) (options : Options) (plan : Result BuildPlan BuildFault) (prepared : Result Prepared BuildFault) (old new : BuildState)
    → Readies is_modelled child options plan prepared old new → IsTrue is_modelled → new.world ≡ old.world
ready_world is_modelled child options (Err fault) prepared old new readies told = ap (λ (s : BuildState). s.world) readies.1
ready_world is_modelled child options (Ok plan) (Err fault) old new readies told = readies.stays told
ready_world is_modelled child options (Ok plan) (Ok prepared) old new readies told = readies.stays told

-- the look itself starts none
foretold_starts : (is_modelled : Bool) (prepared : Result Prepared BuildFault) (answer : Result (Unit {0}) BuildFault) (old new : BuildState) (before after : SinkState) → ForetellsIf is_modelled prepared answer old new before after → new.counts.starts ≡ old.counts.starts
foretold_starts is_modelled (Ok prepared) answer old new before after foretells = foretells.starts
foretold_starts is_modelled (Err fault) answer old new before after foretells = ap (λ (s : BuildState). s.counts.starts) foretells.1

foretold_world : (is_modelled : Bool) (prepared : Result Prepared BuildFault) (answer : Result (Unit {0}) BuildFault) (old new : BuildState) (before after : SinkState) → ForetellsIf is_modelled prepared answer old new before after → new.world ≡ old.world
foretold_world is_modelled (Ok prepared) answer old new before after foretells = foretells.world
foretold_world is_modelled (Err fault) answer old new before after foretells = ap (λ (s : BuildState). s.world) foretells.1

-- nor does a second look
over_starts : (fault : BuildFault) (notes : List (List ℕ)) (old new : BuildState) → LooksTwice (Err fault) notes old new → new.counts.starts ≡ old.counts.starts
over_starts (Plan why) notes old new looked = looked.starts
over_starts Toolchain notes old new looked = ap (λ (s : BuildState). s.counts.starts) looked.0
over_starts (Child unit fault) notes old new looked = ap (λ (s : BuildState). s.counts.starts) looked.0
over_starts (Device unit fault) notes old new looked = ap (λ (s : BuildState). s.counts.starts) looked.0
over_starts Sink notes old new looked = ap (λ (s : BuildState). s.counts.starts) looked.0
over_starts OutOfMemory notes old new looked = ap (λ (s : BuildState). s.counts.starts) looked.0

over_world : (fault : BuildFault) (notes : List (List ℕ)) (old new : BuildState) → LooksTwice (Err fault) notes old new → new.world ≡ old.world
over_world (Plan why) notes old new looked = looked.world
over_world Toolchain notes old new looked = ap (λ (s : BuildState). s.world) looked.0
over_world (Child unit fault) notes old new looked = ap (λ (s : BuildState). s.world) looked.0
over_world (Device unit fault) notes old new looked = ap (λ (s : BuildState). s.world) looked.0
over_world Sink notes old new looked = ap (λ (s : BuildState). s.world) looked.0
over_world OutOfMemory notes old new looked = ap (λ (s : BuildState). s.world) looked.0

ended_starts : (answer : Result (Unit {0}) BuildFault) (status : ℕ) (old new : BuildState) (before after : SinkState) → EndsPlan answer status old new before after → new.counts.starts ≡ old.counts.starts
ended_starts (Ok done) status old new before after ends = ap (λ (s : BuildState). s.counts.starts) ends.1
ended_starts (Err fault) status old new before after ends = over_starts fault ends.notes old new ends.looked

ended_world : (answer : Result (Unit {0}) BuildFault) (status : ℕ) (old new : BuildState) (before after : SinkState) → EndsPlan answer status old new before after → new.world ≡ old.world
ended_world (Ok done) status old new before after ends = ap (λ (s : BuildState). s.world) ends.1
ended_world (Err fault) status old new before after ends = over_world fault ends.notes old new ends.looked

-- in all
one_more : (a b c : Starts) → AtMostOne a b → c ≡ b → AtMostOne a c
one_more a b c (inl same) is = inl (is ∙ same)
one_more a b c (inr up) is = inr (is ∙ up)

module _ (is_modelled : Bool) (child : Answers) (options : Options) (plan : Result BuildPlan BuildFault) (answer : Result (Unit {0}) BuildFault) (status : ℕ) (planned ahead new : BuildState) (before mid after : SinkState)
    (looks : LooksAhead is_modelled child options plan answer planned ahead before mid) (ends : EndsPlan answer status ahead new mid after) where
  pub looked_starts : AtMostOne planned.counts.starts new.counts.starts
  looked_starts =
      one_more planned.counts.starts looks.readied.counts.starts new.counts.starts (ready_starts is_modelled child options plan looks.prepared planned looks.readied looks.readies)
      (ended_starts answer status ahead new mid after ends ∙ foretold_starts is_modelled looks.prepared answer looks.readied ahead before mid looks.foretells)

  pub looked_world : IsTrue is_modelled → new.world ≡ planned.world
  looked_world told =
      ended_world answer status ahead new mid after ends
      ∙ foretold_world is_modelled looks.prepared answer looks.readied ahead before mid looks.foretells
      ∙ ready_world is_modelled child options plan looks.prepared planned looks.readied looks.readies told

pub none_more : (a b c : Starts) → b ≡ a → AtMostOne b c → AtMostOne a c
none_more a b c is (inl same) = inl (same ∙ is)
none_more a b c is (inr up) = inr (up ∙ ap up_starts is)

-- Behind a build.

over_heard : (fault : BuildFault) (notes : List (List ℕ)) (old new : BuildState) → LooksTwice (Err fault) notes old new → new.heard ≡ old.heard
over_heard (Plan why) notes old new looked = looked.heard
over_heard Toolchain notes old new looked = ap (λ (s : BuildState). s.heard) looked.0
over_heard (Child unit fault) notes old new looked = ap (λ (s : BuildState). s.heard) looked.0
over_heard (Device unit fault) notes old new looked = ap (λ (s : BuildState). s.heard) looked.0
over_heard Sink notes old new looked = ap (λ (s : BuildState). s.heard) looked.0
over_heard OutOfMemory notes old new looked = ap (λ (s : BuildState). s.heard) looked.0

-- the place and the output, as they were
abbrev Rests : BuildState → BuildState → Type 0
Rests old new = (new.world ≡ old.world) × (new.counts.starts ≡ old.counts.starts) × (new.heard ≡ old.heard)

behind : (answer : Result Summary BuildFault) (notes : List (List ℕ)) (old new : BuildState) → LooksTwice answer notes old new → Rests old new
behind (Ok summary) notes old new looked = (looked.world, looked.starts, looked.heard)
behind (Err fault) notes old new looked = (over_world fault notes old new looked, over_starts fault notes old new looked, over_heard fault notes old new looked)

pub shown_changes_nothing : {G P O E : Type 0} (is_modelled : Bool) (child : Answers) (Guards : G → G → Option (List ℕ) → Counts → SinkState → SinkState → Type 0) (Told : P → O → E → Shown → Type 0)
    → ShownChangesNothing is_modelled child Guards Told
shown_changes_nothing is_modelled child Guards Told guard_before guard_after place out err page moved options shown status old new said_before said_after (told, does) =
    let rests = behind does.answer does.notes_again does.built new does.looked in
    record {
      answer = does.answer;
      built = does.built;
      builds = does.builds;
      told = does.concluded.told;
      world = rests.0;
      starts = rests.1;
      heard = rests.2;
    }
