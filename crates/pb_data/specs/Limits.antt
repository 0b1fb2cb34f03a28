-- The limits of a build. We chose these numbers ourselves.
use Rattle.std.specs.Prelude.{ℕ}

-- the greatest number of packages that a workspace may have
abbrev pub max_packages : ℕ
max_packages = 256

-- the greatest number of units that a plan may have
abbrev pub max_units : ℕ
max_units = 4096

-- the greatest number of bytes that a manifest may have
abbrev pub max_manifest_bytes : ℕ
max_manifest_bytes = 1048576

-- the greatest number of bytes that a child's output stream, or its dep-info, may have
abbrev pub max_stream_bytes : ℕ
max_stream_bytes = 4194304
