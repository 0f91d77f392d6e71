-- The numbers of a client's requests: their places in the enum (src/eis.rt). Assumes nothing.
use Rattle.std.specs.Prelude.{ℕ}
use Rattle.requests.specs.declared.eis.RequestKind.{RequestKind}

abbrev pub request_number : RequestKind → ℕ
request_number RequestKind.HandshakeVersion = 0
request_number RequestKind.HandshakeFinish = 1
request_number RequestKind.HandshakeContextType = 2
request_number RequestKind.HandshakeName = 3
request_number RequestKind.HandshakeInterfaceVersion = 4
request_number RequestKind.ConnectionSync = 5
request_number RequestKind.ConnectionDisconnect = 6
request_number RequestKind.PingpongDone = 7
request_number RequestKind.SeatRelease = 8
request_number RequestKind.SeatBind = 9
request_number RequestKind.SeatRequestDevice = 10
request_number RequestKind.DeviceRelease = 11
request_number RequestKind.DeviceStartEmulating = 12
request_number RequestKind.DeviceStopEmulating = 13
request_number RequestKind.DeviceFrame = 14
request_number RequestKind.DeviceReady = 15
request_number RequestKind.PointerRelease = 16
request_number RequestKind.PointerMotionRelative = 17
request_number RequestKind.PointerAbsoluteRelease = 18
request_number RequestKind.PointerAbsoluteMotionAbsolute = 19
request_number RequestKind.ScrollRelease = 20
request_number RequestKind.ScrollScroll = 21
request_number RequestKind.ScrollScrollDiscrete = 22
request_number RequestKind.ScrollScrollStop = 23
request_number RequestKind.ButtonRelease = 24
request_number RequestKind.ButtonButton = 25
request_number RequestKind.KeyboardRelease = 26
request_number RequestKind.KeyboardKey = 27
request_number RequestKind.TouchscreenRelease = 28
request_number RequestKind.TouchscreenDown = 29
request_number RequestKind.TouchscreenMotion = 30
request_number RequestKind.TouchscreenUp = 31
request_number RequestKind.TouchscreenCancel = 32
request_number RequestKind.TextRelease = 33
request_number RequestKind.TextKeysym = 34
request_number RequestKind.TextUtf8 = 35
